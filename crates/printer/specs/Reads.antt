-- Where the printers read: the readings of an element, and what is asked of them.
use Rattle.std.specs.Prelude.{◌≡◌, ℕ, ◌+◌, ◌<◌, ◌≤◌, Bool, true, List, []}
use Rattle.std.proofs.Math.Option.{Option, none as nothing, some}
use Rattle.items.specs.Item.{Print}
use Rattle.tree.specs.Tree.{Part}
use Rattle.tree.specs.declared.class.Class.{Class}
use Rattle.tree.specs.declared.class.Kinds.{Kinds}
use Rattle.tree.specs.Index.{Region, parts_from, end_at}
use Rattle.children.specs.declared.between.Bounds.{Bounds}
use Rattle.children.specs.declared.gap.End.TheVariants as End
use Rattle.children.specs.declared.gap.Span.{Span}
use Rattle.children.specs.Reading.{Child, Ending, Reading, foreign, read, pass, start}
use Rattle.children.specs.Stretch.{Stretch}
use Rattle.children.specs.Spans.{Lies}
use Rattle.children.specs.Between.{has}
use Rattle.printer.specs.Under.{At}

-- ---- parts by their numbers

-- what the part with a number prints, or else p
unfoldable pub number_or : (ℕ → Print) → Print → Option ℕ → Print
number_or pr p nothing = p
number_or pr p (some n) = pr n

-- A number that was found is a part's.
pub record Has (ps : List Part) (n : Option ℕ) : Type 0 where
  pub part : (j : ℕ) → n ≡ some j → has j ps ≡ true

-- ---- readings

-- A reading of element i.
pub record Within (image index : List ℕ) (i : ℕ) (z : Bounds) : Type 0 where
  pub at : At image index i
  pub region : Region image index z.from z.to
  pub reached : Stretch image index (i + 1) z.from
  pub inside : z.to ≤ end_at index i

-- the reading of a class between two places
abbrev pub read_at : List ℕ → List ℕ → Class → Bounds → Option (List Part) → Reading
read_at image index c z trailing = pass c z.loose (parts_from image index z.from z.to) (start trailing)

-- No foreign element stands in a reading.
pub record Whole (r : Reading) : Type 0 where
  pub kids : List Child
  pub ending : Ending
  pub is : r ≡ read kids ending

-- the children of a reading
unfoldable pub kids_in : Reading → List Child
kids_in (foreign n) = []
kids_in (read cs e) = cs

-- ---- a walk over the children of a reading

-- A walk over the children of element i may go on at the gap s.
pub record Walks (image index : List ℕ) (i : ℕ) (w : Kinds) (loose : Bool) (b : ℕ) (s : Span) : Type 0 where
  pub at : At image index i
  pub lies : Lies image index s
  pub onward : s.end ≡ End.Child → s.to < b
  pub reached : Stretch image index (i + 1) s.to
  pub inside : b ≤ end_at index i
