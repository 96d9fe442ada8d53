-- The items whose listing is written.
use Rattle.std.specs.Prelude.{◌≡◌, List, [], ℕ, ◌<◌, ◌^◌, length}
use Rattle.std.proofs.Math.Option.{Option, none, some}
use Rattle.items.specs.declared.Count.{Count}
use Rattle.items.specs.Item.{Item}
use Rattle.items.specs.Lines.{record_lines}
use Rattle.items.specs.Records.{counts_of, decoded}

-- no items where there are none
abbrev pub or_none : Option (List Item) → List Item
or_none none = []
or_none (some xs) = xs

-- the items of the first n records, none where one of them is no record of an item
unfoldable pub items_in : List ℕ → List ℕ → ℕ → List Item
items_in rs ts n = or_none (decoded rs ts n)

-- The records are those of items, the counts are theirs, and the bytes of their lines are a u32.
pub record Listable (rs ts : List ℕ) (c : Count) : Type 0 where
  pub decodes : decoded rs ts c.records ≡ some (items_in rs ts c.records)
  pub counts : c ≡ counts_of (items_in rs ts c.records)
  pub fits : length (record_lines 0 (items_in rs ts c.records)) < 2 ^ 32
