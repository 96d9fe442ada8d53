-- The loop of `plan_all`, the lists that a gap's numbers mean, and plannings that a test picks.
use Rattle.std.specs.Prelude.{◌≡◌, ℕ, ◌<◌, ◌≤◌, Bool, true, false, cond, not, ◌||◌, eqb, List, [], ◌∷◌, ◌++◌}
use mathlib.Core.Path.{refl, sym, ◌∙◌}
use mathlib.Core.Bool.{false≢true}
use native.Mathlib.Omega.{arith}
use borrow.Author.Tests.{not-true, not-false}
use Rattle.text.specs.Basic.{is_nil, any}
use Rattle.items.specs.Item.{Item, none, says}
use Rattle.comments.specs.Comments.{Location, comment}
use Rattle.plan.specs.Comments.{comments}
use Rattle.plan.specs.Ops.{operand_limit}
use Rattle.tree.specs.Tree.{Part}
use Rattle.tree.specs.declared.class.Class.TheVariants as Class
use Rattle.tree.specs.declared.class.Kinds.{Kinds}
use Rattle.tree.specs.Class.{kinds, one_of, all_of}
use Rattle.tree.specs.Index.{Region, kind_at, part_at, parts_from, end_at}
use Rattle.tree.proofs.Siblings.{region-part, region-next, parts-over}
use Rattle.children.specs.declared.gap.Span.{Span}
use Rattle.children.specs.Stretch.{inline_in, waiting_in, notes as note_kinds}
use Rattle.children.specs.Tally.{speaks}
use Rattle.children.specs.Spans.{Lies, gap_at}
use Rattle.plan.specs.Ops.{token, note}
use Rattle.tree.specs.Source.{Source, source_at}
use Rattle.plan.specs.declared.Planner.{Planner}
use Rattle.plan.specs.Plans.{Planned, planning, Plans}
use Rattle.plan.proofs.Laws.{planning_seq, planning-none, idle, ◌▸◌, by, as_planned}

-- ---- some comments, and then others

module _ (s : Source) (loc : Location) where
  plan-both : (xs ys : List Part) (o : Planned) → planning (comments (xs ++ ys) loc) o ≡ planning (comments ys loc) (planning (comments xs loc) o)
  unfolding comments
  plan-both [] ys o = rw (planning-none o)
  plan-both (x ∷ xs) ys o = rw (planning_seq, planning_seq) (plan-both xs ys (planning (says (comment x.kind x.text loc)) o))

  pub notes-both_lem : (xs ys : List Part) {o a b : Planner} → Plans s (comments xs loc) o a → Plans s (comments ys loc) a b → Plans s (comments (xs ++ ys) loc) o b
  notes-both_lem xs ys h k = as_planned _ _ (λ o. plan-both xs ys o ∙ sym (planning_seq _ _ o)) (h ▸ k)

-- ---- one element

-- a comment without items
pub silent-planned : (s : Source) {k : ℕ} {t : List ℕ} (v : ℕ) (loc : Location) {b : Bool} {o : Planner} → k ≡ kind_at s.index v → t ≡ token s v → b ≡ is_nil (comment k t loc) → b ≡ true → Plans s (says (note s v loc)) o o
unfolding says none
silent-planned s {k} {t} v loc {b} {o} e f g h = rw (← e, ← f) (go (comment k t loc) (sym g ∙ h))
  where
    go : (xs : List Item) → is_nil xs ≡ true → Plans s (says xs) o o
    go [] n = by refl idle
    go (x ∷ xs) n = absurd (false≢true n)

module _ (image index : List ℕ) (w : Kinds) (j : ℕ) (loc : Location) {k : ℕ} {t : Bool} {o : Planner} (p : k ≡ kind_at index j) (q : t ≡ one_of w k) where
  pub one_none : t ≡ false → Plans (source_at image index) (comments (all_of w (part_at image index j ∷ [])) loc) o o
  unfolding all_of comments
  one_none h = rw (← p, ← q, h) idle

  pub one-planned : t ≡ true → {a : Planner} → Plans (source_at image index) (says (note (source_at image index) j loc)) o a → Plans (source_at image index) (comments (all_of w (part_at image index j ∷ [])) loc) o a
  unfolding all_of comments
  one-planned h x = rw (← p, ← q, h) (rw (← p) at x ▸ idle)

-- ---- the loop

-- Whoever plans the siblings from j on has planned all.
pub record Noting (image index : List ℕ) (w : Kinds) (from b : ℕ) (loc : Location) (o a : Planner) (j : ℕ) : Type 0 where
  pub region : Region image index j b
  pub rest : {z : Planner} → Plans (source_at image index) (comments (all_of w (parts_from image index j b)) loc) a z → Plans (source_at image index) (comments (all_of w (parts_from image index from b)) loc) o z

all_first : (w : Kinds) (x : Part) (xs : List Part) → all_of w (x ∷ xs) ≡ all_of w (x ∷ []) ++ all_of w xs
unfolding all_of
all_first w x xs = go (one_of w x.kind)
  where
    go : (t : Bool) → cond t (x ∷ all_of w xs) (all_of w xs) ≡ cond t (x ∷ []) [] ++ all_of w xs
    go true = refl
    go false = refl

pub noting_none : {image index : List ℕ} {from b : ℕ} (w : Kinds) (loc : Location) (o : Planner) → Region image index from b → Noting image index w from b loc o o from
noting_none w loc o r = record { region = r; rest = λ h. h }

module _ {image index : List ℕ} {w : Kinds} {from b : ℕ} {loc : Location} {o a : Planner} {j : ℕ} (K : Noting image index w from b loc o a j) where
  pub noting-all : b ≤ j → Plans (source_at image index) (comments (all_of w (parts_from image index from b)) loc) o a
  unfolding all_of comments
  noting-all h = K.rest (rw (parts-over index image j b h) idle)

  module _ (lt : j < b) where
    pub noting-few : j < operand_limit
    noting-few = omega (arith, K.region.ends, K.region.table.few)

    pub noting-more : {next : ℕ} {c : Planner} → Plans (source_at image index) (comments (all_of w (part_at image index j ∷ [])) loc) a c → next ≡ end_at index j → Noting image index w from b loc o c next
    noting-more h e = rw e (record {
      region = region-next K.region lt;
      rest = λ r. K.rest (rw (region-part K.region lt, all_first w (part_at image index j)) (notes-both_lem (source_at image index) loc _ _ h r));
    })

-- ---- whitespace

or_none_lem : (a b : Bool) → (a || b) ≡ false → (a ≡ false) × (b ≡ false)
or_none_lem true b e = absurd (false≢true (sym e))
or_none_lem false b e = (refl, e)

-- whitespace plans nothing
space-one : (s : Source) (x : Part) (loc : Location) {o : Planner} → speaks x ≡ false → Plans s (says (comment x.kind x.text loc)) o o
unfolding comment says none
space-one s x loc e = rw (not-false (eqb x.kind 64) e) (by refl idle)

space-planned : (s : Source) (xs : List Part) (loc : Location) {o : Planner} → any speaks xs ≡ false → Plans s (comments xs loc) o o
unfolding any comments
space-planned s [] loc e = idle
space-planned s (x ∷ xs) loc e = let (p, q) = or_none_lem (speaks x) (any speaks xs) e in space-one s x loc p ▸ space-planned s xs loc q

-- a gap of whitespace only
module _ {image index : List ℕ} {g : Span} (h : Lies image index g) (e : not g.tally.noted ≡ true) where
  silent : (any speaks (gap_at image index g).inline ≡ false) × (any speaks (gap_at image index g).waiting ≡ false)
  silent = or_none_lem _ _ (sym h.tells.noted ∙ not-true g.tally.noted e)

  pub inline-silent : (s : Source) (loc : Location) {o : Planner} → Plans s (comments (gap_at image index g).inline loc) o o
  inline-silent s loc = space-planned s _ loc silent.0

  pub waiting-silent : (s : Source) (loc : Location) {o : Planner} → Plans s (comments (gap_at image index g).waiting loc) o o
  waiting-silent s loc = space-planned s _ loc silent.1

-- ---- a gap's lists

pub kinds-planned : (s : Source) {v w : Kinds} (xs : List Part) (loc : Location) {o a : Planner} → v ≡ w → Plans s (comments (all_of v xs) loc) o a → Plans s (comments (all_of w xs) loc) o a
kinds-planned s xs loc e h = rw (← e) h

pub inline-planned : (s : Source) (image index : List ℕ) (g : Span) (loc : Location) {o a : Planner} {w : Kinds}
    → w ≡ kinds Class.Trivia → Plans s (comments (all_of w (parts_from image index g.from g.cut)) loc) o a → Plans s (comments (gap_at image index g).inline loc) o a
unfolding inline_in
inline-planned s image index g loc e h = kinds-planned s _ loc e h

pub waiting-planned : (s : Source) (image index : List ℕ) (g : Span) (loc : Location) {o a : Planner} {v w : Kinds} {c : Planner}
    → v ≡ kinds Class.CustomError → Plans s (comments (all_of v (parts_from image index g.from g.cut)) loc) o c
    → w ≡ note_kinds → Plans s (comments (all_of w (parts_from image index g.cut g.to)) loc) c a → Plans s (comments (gap_at image index g).waiting loc) o a
unfolding waiting_in
waiting-planned s index text g loc e h f k = notes-both_lem s loc _ _ (kinds-planned s _ loc e h) (kinds-planned s _ loc f k)
