-- Stretches of siblings, and what lies in a gap by the kinds of its parts.
use Rattle.std.specs.Prelude.{List, ◌++◌, ℕ, ◌<◌, ◌≤◌}
use Rattle.tree.specs.Tree.{Part}
use Rattle.tree.specs.declared.class.Class.TheVariants as Class
use Rattle.tree.specs.declared.class.Kinds.{Kinds}
use Rattle.tree.specs.Class.{from, kinds, all_of}
use Rattle.tree.specs.Index.{end_at, parts_from, Table}

-- the kinds of trivia (64-69) and of custom errors (70-72)
abbrev pub notes : Kinds
notes = from 64 72

-- the inline trivia of a gap from a with its cut at c
unfoldable pub inline_in : List ℕ → List ℕ → ℕ → ℕ → List Part
inline_in image index a c = all_of (kinds Class.Trivia) (parts_from image index a c)

-- what waits in a gap from a to b with its cut at c: every custom error, and the trivia behind the cut
unfoldable pub waiting_in : List ℕ → List ℕ → ℕ → ℕ → ℕ → List Part
waiting_in image index a c b = all_of (kinds Class.CustomError) (parts_from image index a c) ++ all_of notes (parts_from image index c b)

-- j is reached from a by jumps to the ends of elements
pub data Jumps (index : List ℕ) (n : ℕ) : ℕ → ℕ → Type 0 where
  here : {a : ℕ} → Jumps index n a a
  jump : {a j : ℕ} → a < n → Jumps index n (end_at index a) j → Jumps index n a j

-- b is reached from a by jumps, in an index of a tree.
pub record Stretch (image index : List ℕ) (a b : ℕ) : Type 0 where
  pub n : ℕ
  pub table : Table image index n
  pub upto : b ≤ n
  pub jumps : Jumps index n a b
