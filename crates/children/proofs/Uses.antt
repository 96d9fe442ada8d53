-- What callers of `gap` and `survey` cite.
use mathlib.Core.Path.{◌≡◌, refl, ap, ◌∙◌, sym}
use mathlib.Core.Bool.{Bool, true, false, not, false≢true}
use mathlib.Core.Option.{none, some}
use mathlib.Core.List.{List}
use Prim.Native.Nat.{ℕ}
use Rattle.tree.specs.declared.class.Kinds.{Kinds}
use Rattle.tree.specs.Class.{kinds}
use Rattle.children.specs.declared.gap.End.{End}
use Rattle.children.specs.declared.gap.Span.{Span}
use Rattle.children.specs.declared.survey.Outline.{Outline}
use Rattle.children.specs.Reading.{pass, start}
use Rattle.children.specs.Gaps.{Gaps, gaps, is_child, is_foreign}
use Rattle.tree.specs.Index.{parts_from, part_at, end_at}
use Rattle.children.specs.Stretch.{Stretch}
use Rattle.children.specs.Spans.{Spans, spanned, gap_at, Outlines, Surveyed}
use Rattle.children.specs.Lead.{Leads, SurveyedAfter}
use Rattle.children.specs.Whole.{sums_of}
use Rattle.children.proofs.Whole.{whole, whole-sums}
use Rattle.children.proofs.Lead.{whole-after}
use Rattle.children.proofs.Stretch.{stretch_both}
use Rattle.tree.specs.declared.class.Class.{Class}

-- what the tests of a gap's end say
pub child_is : (e : End) {t : Bool} → t ≡ is_child e → t ≡ true → e ≡ End.Child
child_is End.Child q p = refl
child_is End.Last q p = absurd (false≢true (sym q ∙ p))
child_is End.Foreign q p = absurd (false≢true (sym q ∙ p))

pub child_not : (e : End) {t : Bool} → t ≡ is_child e → t ≡ false → e ≡ End.Child → ⊥
child_not e q p z = false≢true (sym p ∙ q ∙ rw z)

pub foreign_is : (e : End) {u : Bool} → u ≡ is_foreign e → u ≡ true → e ≡ End.Foreign
foreign_is End.Child q p = absurd (false≢true (sym q ∙ p))
foreign_is End.Last q p = absurd (false≢true (sym q ∙ p))
foreign_is End.Foreign q p = refl

pub last_is : (e : End) {t u : Bool} → t ≡ is_child e → t ≡ false → u ≡ is_foreign e → u ≡ false → e ≡ End.Last
last_is End.Child q p v z = absurd (false≢true (sym p ∙ q))
last_is End.Last q p v z = refl
last_is End.Foreign q p v z = absurd (false≢true (sym z ∙ v))

module _ {index image : List ℕ} {w : Kinds} {loose after : Bool} {from b : ℕ} {r : Span} (h : Spans image index w loose after from b r) where
  -- a gap, a child, and what is behind the child
  pub span-child : r.end ≡ End.Child → gaps w loose (not after) after (parts_from image index from b) ≡ Gaps.child (gap_at image index r) (part_at image index r.to) (gaps w loose false true (parts_from image index (end_at index r.to) b))
  unfolding spanned
  span-child e = h.read ∙ rw e

  -- its end is reached from its beginning
  pub span-reached : Stretch image index from r.to
  span-reached = rw h.begins at (stretch_both h.lies.first h.lies.second)

-- the same at the first gap of a reading with a trailing list
module _ {index image : List ℕ} {w : Kinds} {loose : Bool} {from b : ℕ} {r : Span} (h : Leads image index w loose from b r) where
  -- its end is reached from its beginning
  pub lead-reached : Stretch image index from r.to
  lead-reached = rw h.begins at (stretch_both h.lies.first h.lies.second)

-- A survey is the survey of the reading.
pub survey_reading : (wanted : Class) {index image : List ℕ} {loose : Bool} {from b : ℕ} {r : Outline} → Surveyed image index (kinds wanted) loose from b r
    → Outlines image index (sums_of (pass wanted loose (parts_from image index from b) (start none))) r
survey_reading wanted {index} {image} {loose} {from} {b} h = rw (ap sums_of (whole wanted loose (parts_from image index from b)) ∙ sym (whole-sums _)) h.outlines

-- And that of a reading with a trailing list.
pub survey-after_reading : (wanted : Class) {index image : List ℕ} {loose : Bool} {t : Span} {from b : ℕ} {r : Outline} → SurveyedAfter image index (kinds wanted) loose t from b r
    → Outlines image index (sums_of (pass wanted loose (parts_from image index from b) (start (some (gap_at image index t).waiting)))) r
survey-after_reading wanted {index} {image} {loose} {t} {from} {b} h = rw (whole-after wanted loose (gap_at image index t).waiting (parts_from image index from b)) h.outlines
