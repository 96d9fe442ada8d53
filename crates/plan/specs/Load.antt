-- What items weigh: 1 each, or more than any array holds where a number has no room in an operation.
use Rattle.std.specs.Prelude.{◌≡◌, ℕ, ◌^◌, ◌≤◌, cond, List, length, nat_lt}
use Rattle.text.specs.Basic.{sum}
use Rattle.items.specs.Item.{always, lines, Item, text, signal, mark, run, run_end, again, if_test}
use Rattle.items.specs.Role.{runs_of}
use Rattle.plan.specs.Ops.{expand, operand_limit}
use Rattle.tree.specs.Source.{Source}

-- the mark, run or start mark that an item names; 0 where it names none
abbrev pub number_in : Item → ℕ
number_in (text s) = 0
number_in (signal s) = 0
number_in (mark n) = n
number_in (run n) = n
number_in (run_end n) = n
number_in (again n) = n
number_in (if_test always) = 0
number_in (if_test (lines n)) = n

-- what an item weighs
unfoldable pub weigh : Item → ℕ
weigh x = cond (nat_lt (number_in x) operand_limit) 1 (2 ^ 32)

-- what items weigh
unfoldable pub load : List Item → ℕ
load xs = sum weigh xs

-- An operation that prints something, which is no run; an operand that has no room weighs too much.
pub record Carried (s : Source) (k v : ℕ) : Type 0 where
  pub far : operand_limit ≤ v → 2 ^ 32 ≤ load (expand s k v)
  pub calm : runs_of (expand s k v) ≡ 0
  pub some : 1 ≤ length (expand s k v)
