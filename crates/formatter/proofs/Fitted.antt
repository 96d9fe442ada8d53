-- The items of an accepted image can be printed: no number and no count is too large for a record.
use mathlib.Core.List.{List, [], ◌∷◌}
use Prim.Native.Nat.{ℕ, ◌≤◌, ◌<◌, ◌^◌}
use native.Mathlib.Omega.{arith}
use lib.ListN.{length, length-append}
use Rattle.text.specs.Basic.{sum, All, ∅, ◌▹◌}
use Rattle.items.specs.Item.{always, lines, Item, Context, signal, text, mark, run, run_end, again, if_test}
use Rattle.items.specs.Role.{Role, stays, marks, opens, closes, repeats, role, is_run, is_mark}
use Rattle.items.specs.Records.{bytes_of, bytes}
use Rattle.items.proofs.Fits.{Short, Fits, items_of}
use Rattle.items.proofs.Lengths.{lines-short}
use Rattle.tree.specs.Tree.{tree_of}
use Rattle.tree.proofs.Passing.{Accepted}
use Rattle.printer.specs.Print.{source_file}
use Rattle.plan.specs.Load.{number_in}
use Rattle.formatter.proofs.Agree.{Below, numbers-small}
use Rattle.formatter.proofs.Counted.{records-bound, texts-bound}

short : (x : Item) → number_in x < 2 ^ 32 → length (bytes_of x) < 2 ^ 32 → Short x
short (text s) h k = omega arith
short (signal s) h k = omega arith
short (mark n) h k = omega arith
short (run n) h k = omega arith
short (run_end n) h k = omega arith
short (again n) h k = omega arith
short (if_test always) h k = omega arith
short (if_test (lines n)) h k = omega arith

-- a text is at most all texts
all_short : {r : ℕ} {xs : List Item} → All (Below r) xs → r < 2 ^ 31 → length (bytes xs) < 2 ^ 32 → All Short xs
unfolding bytes
all_short ∅ h k = ∅
all_short (◌▹◌ {x} {xs} b bs) h k =
    let e = length-append (bytes_of x) (bytes xs) in
    short x (omega arith) (omega arith) ▹ all_short bs h (omega arith)

pub one-run : (r : Role) → is_run r ≤ 1
one-run stays = omega arith
one-run marks = omega arith
one-run (opens k) = omega arith
one-run (closes k) = omega arith
one-run (repeats k) = omega arith

pub one-mark : (r : Role) → is_mark r ≤ 1
one-mark stays = omega arith
one-mark marks = omega arith
one-mark (opens k) = omega arith
one-mark (closes k) = omega arith
one-mark (repeats k) = omega arith

pub sum_le : (f : Role → ℕ) → ((r : Role) → f r ≤ 1) → (xs : List Item) → sum (λ x. f (role x)) xs ≤ length xs
unfolding sum
sum_le f h [] = omega arith
sum_le f h (x ∷ xs) = omega (arith, h (role x), sum_le f h xs)

-- the items of an accepted image can be printed, also where the printing stops
pub items-fit : {image : List ℕ} → Accepted image → (c : Context) → Fits (items_of (source_file (tree_of image) c 0))
items-fit {image} a c =
    let xs = items_of (source_file (tree_of image) c 0) in
    let r = records-bound a c in
    let t = texts-bound a c in
    let u = sum_le is_run one-run xs in
    let o = all_short (numbers-small (tree_of image) c) (omega arith) (omega arith) in
    record {
      operands = o;
      records = omega arith;
      texts = omega arith;
      lines = omega (arith, lines-short 0 o (omega arith));
    }
