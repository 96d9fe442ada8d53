-- The laws of walks over the children of a reading.
use Rattle.std.specs.Prelude.{◌≡◌, ℕ, ◌-◌, ◌<◌, ◌≤◌, Bool, true, false, List, [], length}
use mathlib.Core.Path.{◌∙◌}
use mathlib.Core.Option.{none as nothing, some}
use native.Mathlib.Omega.{arith}
use Rattle.items.specs.Item.{Print, none, stopped, keeping}
use Rattle.comments.specs.Comments.{end_of_items}
use Rattle.plan.specs.Comments.{comments}
use Rattle.tree.specs.Source.{source_at}
use Rattle.plan.specs.declared.Planner.{Planner}
use Rattle.plan.specs.Plans.{Plans}
use Rattle.plan.proofs.Laws.{by, ◌▸◌}
use Rattle.tree.specs.declared.class.Class.{Class}
use Rattle.tree.specs.declared.class.Kinds.{Kinds}
use Rattle.tree.specs.Class.{kinds}
use Rattle.tree.specs.Index.{Region, end_at}
use Rattle.tree.proofs.Children.{table}
use Rattle.tree.proofs.Siblings.{parts-over}
use Rattle.children.specs.declared.between.Bounds.{Bounds}
use Rattle.children.specs.declared.gap.Span.{Span}
use Rattle.children.specs.declared.survey.Outline.{Outline}
use Rattle.children.specs.Reading.{Reading, foreign, pass}
use Rattle.children.specs.Lead.{SurveyedAfter}
use Rattle.children.specs.Gaps.{Gap, gap_of, is_child, is_foreign}
use Rattle.children.specs.Spans.{Lies, Spans, Surveyed, spanned, gap_at}
use Rattle.children.proofs.Uses.{child_is, span-reached, survey_reading, survey-after_reading}
use Rattle.children.proofs.Stretch.{jumps-le}
use Rattle.printer.specs.Print.{statements, statements_of, values, values_of}
use Rattle.printer.proofs.Seq.{none_first, keeping_none, Goes, goes_none, goes-more, goes-all}
use Rattle.printer.specs.Under.{under, print_of}
use Rattle.printer.specs.Walked.{Turn, around, stated, alone, walked, Outlined}
use Rattle.printer.specs.Reads.{Within, Whole, read_at, kids_in, Walks}
use Rattle.printer.proofs.Walked.{statements_turn, values-turn, outlined, outlined-foreign, walk-next, walk_none}
use Rattle.printer.proofs.Under.{kid-print, kid_at}
use Rattle.printer.proofs.Readings.{walks-first, walks-kid, walks_next, read_walk}

-- ---- what a survey says

module _ (c : Class) {image index : List ℕ} {z : Bounds} {w : Kinds} {o : Outline} (k : w ≡ kinds c) (h : Surveyed image index w z.loose z.from z.to o) where
  -- the reading comes to its end
  pub survey-outlined : {t : Bool} → t ≡ is_foreign o.last.end → t ≡ false → Outlined image index (read_at image index c z nothing) o
  survey-outlined i e = outlined i _ (survey_reading c (rw k at h)) e

  -- a foreign element stands in it
  pub survey-foreign : {t : Bool} → t ≡ is_foreign o.last.end → t ≡ true → read_at image index c z nothing ≡ foreign o.last.to
  survey-foreign i e = outlined-foreign i _ (survey_reading c (rw k at h)) e

-- the same of a reading whose trailing list is what waits in the gap s
module _ (c : Class) {image index : List ℕ} {z : Bounds} {w : Kinds} {s : Span} {o : Outline} (k : w ≡ kinds c) (h : SurveyedAfter image index w z.loose s z.from z.to o) where
  pub after-outlined : {t : Bool} → t ≡ is_foreign o.last.end → t ≡ false → Outlined image index (read_at image index c z (some (gap_at image index s).waiting)) o
  after-outlined i e = outlined i _ (survey-after_reading c (rw k at h)) e

  pub after-foreign : {t : Bool} → t ≡ is_foreign o.last.end → t ≡ true → read_at image index c z (some (gap_at image index s).waiting) ≡ foreign o.last.to
  after-foreign i e = outlined-foreign i _ (survey-after_reading c (rw k at h)) e

-- a reading that comes to its end has no foreign element
abbrev pub outlined-whole : {index image : List ℕ} {r : Reading} {o : Outline} → Outlined image index r o → Whole r
outlined-whole x = record { kids = x.kids; ending = x.ending; is = x.is }

-- and as many children as it says
pub outlined-count : {index image : List ℕ} {r : Reading} {o : Outline} (n : ℕ) → Outlined image index r o → o.children ≡ n → length (kids_in r) ≡ n
unfolding kids_in
outlined-count n x e = rw x.is (x.count ∙ e)

-- ---- gaps

-- a gap before which nothing came
module _ (index image : List ℕ) (s : Span) {t : Span} (e : t ≡ record { from = s.from; cut = s.cut; to = s.to; had = false; end = s.end; tally = s.tally }) where
  pub unasked-lies : Lies image index s → Lies image index t
  unasked-lies h = rw e (record { first = h.first; second = h.second; tells = h.tells; few = h.few })

  -- its child asks for no blank line
  pub unasked-around : (pr : ℕ → Print) (f g : Bool → Print) (j : ℕ) (b : Gap) (m : Bool) → around pr f g (gap_of [] (gap_at image index s).waiting false) j b m ≡ around pr f g (gap_at image index t) j b m
  unfolding around
  unasked-around pr f g j b m = rw e

-- a gap by the class that the code has named
pub spans_as : {index image : List ℕ} {w v : Kinds} {loose after : Bool} {from b : ℕ} {s : Span} → w ≡ v → Spans image index w loose after from b s → Spans image index v loose after from b s
spans_as e h = rw (← e) h

module _ {image index : List ℕ} {i : ℕ} {w : Kinds} {loose : Bool} {b next : ℕ} {s : Span} (h : Walks image index i w loose b s) {t : Bool} (j : t ≡ is_child s.end) (e : t ≡ true) (q : next ≡ end_at index s.to) where
  -- where it may be looked for
  pub walks-region : Region image index next b
  walks-region =
      let t = table h.at.indexed in
      let k = walks-kid h (child_is s.end j e) in
      rw q (record { n = _; table = t; begins = t.inside s.to (kid_at k).within; ends = omega (arith, h.inside, t.inside i h.at.within) })

  -- it ends further on
  pub walks_less : {g : Span} → Spans image index w loose true next b g → b - g.to < b - s.to
  walks_less k =
      let r = span-reached k in
      let d = child_is s.end j e in
      let p = (table h.at.indexed).past s.to (kid_at (walks-kid h d)).within in
      omega (arith, h.onward d, jumps-le r.table r.jumps)

-- ---- children in turn

-- The children from the gap s on are still to be printed, of those from the gap s₀ on.
pub record Walking (image index : List ℕ) (i : ℕ) (w : Kinds) (loose : Bool) (b : ℕ) (turn : Turn) (s₀ : Span) (o a : Planner) (s : Span) : Type 0 where
  pub walks : Walks image index i w loose b s
  pub goes : Goes (source_at image index) (walked turn (spanned image index w loose b s₀)) (walked turn (spanned image index w loose b s)) o a

module _ {image index : List ℕ} {i : ℕ} {w : Kinds} {loose : Bool} {b : ℕ} {turn : Turn} {s : Span} {o : Planner} where
  pub walking-none : (c : Class) → w ≡ kinds c → Walks image index i (kinds c) loose b s → Walking image index i w loose b turn s o o s
  walking-none c k h = record { walks = rw k h; goes = goes_none _ o }

  pub walking-more : {s₀ g : Span} {a d : Planner} {next : ℕ} {v : Bool} → Walking image index i w loose b turn s₀ o a s → v ≡ is_child s.end → v ≡ true → next ≡ end_at index s.to → Spans image index w loose true next b g
      → Plans (source_at image index) (turn (gap_at image index s) s.to (gap_at image index g) (is_child g.end)) a d → Walking image index i w loose b turn s₀ o d g
  walking-more h j e q k p =
      let d = child_is s.end j e in
      record { walks = walks_next h.walks d q k; goes = goes-more h.goes (walk-next s d q k turn) p }

  pub walking-all_lem : (c : Class) {s₀ : Span} {a : Planner} {v : Bool} → w ≡ kinds c → Walking image index i w loose b turn s₀ o a s → v ≡ is_child s.end → v ≡ false
      → Plans (source_at image index) (walked turn (spanned image index (kinds c) loose b s₀)) o a
  walking-all_lem c k h j e = rw (← k) (goes-all h.goes (walk_none index image w loose b s turn j e))

-- ---- statements and suffixes

-- the first gap of a reading
module _ {image index : List ℕ} {w : Kinds} {z : Bounds} {s : Span} {o : Planner} where
  pub walking-first : (c : Class) {i : ℕ} {turn : Turn} → Within image index i z → w ≡ kinds c → Spans image index w z.loose false z.from z.to s → Walking image index i w z.loose z.to turn s o o s
  walking-first c h k p = walking-none c k (walks-first c h (rw k at p))

-- The values from the gap s on are still to be printed, of those from the gap s₀ on, whatever element the reading is of.
pub record Valuing (image index : List ℕ) (w : Kinds) (z : Bounds) (s₀ : Span) (o a : Planner) (s : Span) : Type 0 where
  pub walking : {i : ℕ} → Within image index i z → Walking image index i w z.loose z.to (alone (under image i)) s₀ o a s

module _ {image index : List ℕ} {w : Kinds} {z : Bounds} {s : Span} {o : Planner} where
  pub valuing-none : (c : Class) → w ≡ kinds c → Spans image index w z.loose false z.from z.to s → Valuing image index w z s o o s
  valuing-none c k p = record { walking = λ h. walking-first c h k p }

  pub valuing-more : {s₀ g : Span} {a d : Planner} {next : ℕ} {v : Bool} → Valuing image index w z s₀ o a s → v ≡ is_child s.end → v ≡ true → next ≡ end_at index s.to
      → Spans image index w z.loose true next z.to g → Plans (source_at image index) (print_of image s.to) a d → Valuing image index w z s₀ o d g
  unfolding alone
  valuing-more r j e q k p = record { walking = λ h. walking-more (r.walking h) j e q k (by (kid-print (walks-kid (r.walking h).walks (child_is s.end j e))) p) }

module _ {image index : List ℕ} {i : ℕ} {w : Kinds} {z : Bounds} {s s₀ : Span} {o a : Planner} {out : Outline} {v : Bool} where
  -- the suffixes of a reading
  pub valuing-all : (c : Class) → Within image index i z → w ≡ kinds c → Spans image index w z.loose false z.from z.to s₀
      → Outlined image index (read_at image index c z nothing) out → Valuing image index w z s₀ o a s → v ≡ is_child s.end → v ≡ false → Plans (source_at image index) (values_of (under image i) (read_at image index c z nothing)) o a
  unfolding values_of
  valuing-all c n k p x h j e = by (rw x.is (read_walk (values-turn (under image i)) c (spans_as k p) (outlined-whole x))) (walking-all_lem c k (h.walking n) j e)

  -- the statements of a reading, and what is left behind them
  pub stating-all : (c : Class) → w ≡ kinds c → Spans image index w z.loose false z.from z.to s₀
      → Outlined image index (read_at image index c z nothing) out → Walking image index i w z.loose z.to (stated (under image i)) s₀ o a s → v ≡ is_child s.end → v ≡ false
      → {d : Planner} → Plans (source_at image index) (keeping (comments (gap_at image index out.last).waiting end_of_items)) a d → Plans (source_at image index) (statements_of (under image i) (read_at image index c z nothing)) o d
  unfolding statements_of
  stating-all c k p x h j e q = by (rw (x.is, x.waits, read_walk (statements_turn (under image i)) c (spans_as k p) (outlined-whole x))) (walking-all_lem c k h j e ▸ q)

-- no element
module _ (pr : ℕ → Print) (c : Class) (index image : List ℕ) (z : Bounds) (h : z.to ≤ z.from) where
  pub values-over : values_of pr (read_at image index c z nothing) ≡ none
  unfolding values_of values pass
  values-over = rw (parts-over index image z.from z.to h)

  pub statements-over : statements_of pr (read_at image index c z nothing) ≡ none
  unfolding statements_of statements pass comments
  statements-over = rw (parts-over index image z.from z.to h, keeping_none, none_first)

-- a foreign element
module _ (pr : ℕ → Print) {r : Reading} {n : ℕ} (e : r ≡ foreign n) where
  pub values-foreign : values_of pr r ≡ stopped n
  unfolding values_of
  values-foreign = rw e

  pub statements-foreign : statements_of pr r ≡ stopped n
  unfolding statements_of
  statements-foreign = rw e
