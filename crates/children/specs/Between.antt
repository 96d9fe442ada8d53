-- The parts between a start and an end, and those around an expression, by their numbers.
use Rattle.std.specs.Prelude.{◌≡◌, Bool, true, cond, ◌||◌, List, [], ◌∷◌, ℕ, ◌≤◌, eqb, ltb, Ok, Err}
use Rattle.std.specs.declared.result.Result.{Result}
use Rattle.std.proofs.Math.Option.{Option, none, some}
use Rattle.text.specs.Basic.{any}
use Rattle.tree.specs.Source.{LentTree}
use Rattle.tree.specs.Tree.{Part}
use Rattle.tree.specs.declared.class.Class.{Class}
use Rattle.tree.specs.Class.{one_of, of_kind, number_of, all_of}
use Rattle.tree.specs.Index.{Region, parts_from, end_at}
use Rattle.children.specs.declared.between.Bounds.{Bounds}
use Rattle.numbers.specs.declared.Element.{Element}
use Rattle.children.specs.declared.around.Notes.{Notes}
use Rattle.children.specs.Reading.{between, pass, start, Around, foreign_at, trivia, is_note, leading, trivia_before, trivia_after}
use Rattle.children.specs.Stretch.{notes, Stretch}

-- ---- what an accessor gives is one of them

-- one of the parts has this number
unfoldable pub has : ℕ → List Part → Bool
has j xs = any (λ x. eqb x.number j) xs

-- ---- children_between

-- where the parts behind the start begin
abbrev pub from_at : List ℕ → Option ℕ → ℕ → ℕ
from_at index none a = a
from_at index (some j) a = end_at index j

-- where they end: at the end, if it stands behind the start
abbrev pub to_at : Option ℕ → ℕ → ℕ → ℕ
to_at none from b = b
to_at (some e) from b = cond (ltb e from) b e

-- A start and an end, if any, are among the siblings from a on that begin before b.
pub record Ends (image index : List ℕ) (a b : ℕ) (s e : Option ℕ) : Type 0 where
  pub region : Region image index a b
  pub starts : (j : ℕ) → s ≡ some j → has j (parts_from image index a b) ≡ true
  pub ends : (j : ℕ) → e ≡ some j → has j (parts_from image index a b) ≡ true

-- r is where a reading between a start and an end begins and ends, and whether it is loose. It begins at one of the siblings from a
-- on, or at their end.
pub record Bounded (image index : List ℕ) (a b : ℕ) (s e : Option ℕ) (r : Bounds) : Type 0 where
  pub region : Region image index r.from r.to
  pub reached : Stretch image index a r.from
  pub within : r.to ≤ b
  pub read : (wanted : Class) (x y : Option Part) (t : Option (List Part)) → number_of x ≡ s → number_of y ≡ e
      → between wanted x y t (parts_from image index a b) ≡ pass wanted r.loose (parts_from image index r.from r.to) (start t)

-- ---- around an expression

-- what is around: a foreign element, or the trivia and custom errors
abbrev pub around_at : Option ℕ → List Part → Around
around_at none xs = trivia xs
around_at (some n) xs = foreign_at n

-- the same by the notes or the foreign element that the code gives
abbrev pub around_by : List ℕ → List ℕ → Result Notes Element → Around
around_by image index (Ok n) = trivia (all_of notes (parts_from image index n.from n.to))
around_by image index (Err x) = foreign_at x.0

-- The notes n stand between two places.
pub record Placed (image index : List ℕ) (from to : ℕ) (n : Notes) : Type 0 where
  pub begins : n.from ≡ from
  pub ends : n.to ≡ to
  pub region : Region image index n.from n.to

-- r is what x gives, which stands between two places, also where an element stops it.
pub record Beside (image index : List ℕ) (x : Around) (from to : ℕ) (r : Result Notes Element) : Type 0 where
  pub region : Region image index from to
  pub read : x ≡ around_by image index r
  pub placed : (n : Notes) → r ≡ Ok n → Placed image index from to n

-- where the trivia and custom errors end that come first of some parts, which begin at a
unfoldable pub leading_to : List ℕ → ℕ → List Part → ℕ
leading_to index a [] = a
leading_to index a (x ∷ xs) = cond (is_note x) (leading_to index (end_at index x.number) xs) a

-- where what stands before the part with number e ends: at it, or where what comes first ends
abbrev pub before_to : List ℕ → Option ℕ → ℕ → List Part → ℕ
before_to index none a xs = leading_to index a xs
before_to index (some e) a xs = e

-- r is what f gives of a part x with number e, if any, and the siblings from a on that begin before b
abbrev pub BesideIn : (Option Part → List Part → Around) → LentTree → Option ℕ → ℕ → ℕ → ℕ → ℕ → Result Notes Element → Type 0
BesideIn f tree e a b from to r =
    (x : Option Part) → number_of x ≡ e → Beside tree.entry.now.image tree.entry.now.index (f x (parts_from tree.entry.now.image tree.entry.now.index a b)) from to r

-- what stands before that part, from a on
abbrev pub BeforeIn : LentTree → Option ℕ → ℕ → ℕ → Result Notes Element → Type 0
BeforeIn tree e a b r = BesideIn trivia_before tree e a b a (before_to tree.entry.now.index e a (parts_from tree.entry.now.image tree.entry.now.index a b)) r

-- what stands behind it, up to b
abbrev pub AfterIn : LentTree → Option ℕ → ℕ → ℕ → Result Notes Element → Type 0
AfterIn tree e a b r = BesideIn trivia_after tree e a b (from_at tree.entry.now.index e b) b r

-- trivia, a custom error or a separator: what a strict reading takes or skips
unfoldable pub is_kept : ℕ → Bool
is_kept k = one_of notes k || of_kind Class.Separator k

-- the first part that a strict reading does not take
unfoldable pub foreign_in : List Part → Option ℕ
foreign_in [] = none
foreign_in (x ∷ xs) = cond (is_kept x.kind) (foreign_in xs) (some x.number)

-- The trivia and custom errors that come first from a on end at r.
pub record Led (image index : List ℕ) (a b r : ℕ) : Type 0 where
  pub ends : r ≡ leading_to index a (parts_from image index a b)
  pub region : Region image index a r
  pub read : leading (parts_from image index a b) ≡ all_of notes (parts_from image index a r)
