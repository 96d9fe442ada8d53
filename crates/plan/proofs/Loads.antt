-- What items weigh, by how many they are.
use Rattle.std.specs.Prelude.{◌≡◌, ◌+◌, ◌^◌, ◌<◌, ◌≤◌, Bool, true, false, cond, ltb, List, [], ◌∷◌, ◌++◌, length}
use mathlib.Core.Path.{refl}
use native.Mathlib.Omega.{arith}
use borrow.Author.Tests.{lt-ltb, le-ltb}
use Rattle.text.specs.Basic.{sum, All, ∅, ◌▹◌}
use Rattle.text.proofs.Lists.{sum-append}
use Rattle.items.specs.Item.{Item}
use Rattle.plan.specs.Ops.{operand_limit}
use Rattle.plan.specs.Load.{number_in, weigh, load}

weigh-some : (x : Item) → 1 ≤ weigh x
unfolding weigh
weigh-some x = go (ltb (number_in x) operand_limit)
  where
    go : (b : Bool) → 1 ≤ cond b 1 (2 ^ 32)
    go true = omega arith
    go false = omega arith

pub weigh-more : (x : Item) → operand_limit ≤ number_in x → 2 ^ 32 ≤ weigh x
unfolding weigh
weigh-more x l = rw (le-ltb (number_in x) operand_limit l) (omega arith)

weigh-one : (x : Item) → number_in x < operand_limit → weigh x ≡ 1
unfolding weigh
weigh-one x l = rw (lt-ltb (number_in x) operand_limit l)

pub load-append : (xs ys : List Item) → load (xs ++ ys) ≡ load xs + load ys
unfolding load
load-append xs ys = sum-append weigh xs ys

pub length-load : (xs : List Item) → length xs ≤ load xs
unfolding load sum
length-load [] = omega arith
length-load (x ∷ xs) = omega (arith, weigh-some x, length-load xs)

-- items whose numbers have room weigh 1 each
pub load-length : {xs : List Item} → All (λ x. number_in x < operand_limit) xs → load xs ≡ length xs
unfolding load sum
load-length ∅ = refl
load-length (◌▹◌ {x} h r) = omega (arith, weigh-one x h, load-length r)
