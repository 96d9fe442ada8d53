-- Records that decode to items are listable.
use mathlib.Core.Path.{◌≡◌}
use mathlib.Core.Option.{some}
use mathlib.Core.List.{List}
use Prim.Native.Nat.{ℕ, ◌<◌, ◌^◌}
use lib.ListN.{length}
use Rattle.items.specs.declared.Count.{Count}
use Rattle.items.specs.Item.{Item}
use Rattle.items.specs.Lines.{record_lines}
use Rattle.items.specs.Records.{counts_of, decoded}
use Rattle.listing.specs.Listable.{items_in, Listable}

-- records that decode to xs have these items
pub items_are : (rs ts : List ℕ) (n : ℕ) (xs : List Item) → decoded rs ts n ≡ some xs → items_in rs ts n ≡ xs
unfolding items_in
items_are rs ts n xs h = rw h

-- records that decode to xs, with the counts of xs, are listable where its lines are not too long
pub listable : (rs ts : List ℕ) (c : Count) (xs : List Item) → decoded rs ts c.records ≡ some xs → c ≡ counts_of xs → length (record_lines 0 xs) < 2 ^ 32 → Listable rs ts c
listable rs ts c xs h e l = let i = items_are rs ts c.records xs h in record { decodes = rw i h; counts = rw i e; fits = rw i l }
