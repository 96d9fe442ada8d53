-- The laws of a local's one bind, and of the CompSpecs of an object comprehension.
use Rattle.std.specs.Prelude.{◌≡◌, ℕ, ◌≤◌, Bool, true, false, List, [], ◌∷◌, length}
use mathlib.Core.Path.{refl, sym, ap, ◌∙◌}
use mathlib.Core.Option.{none as nothing, some}
use native.Mathlib.Omega.{arith}
use Rattle.items.specs.Item.{Print, ◌⨟◌, none, lit}
use Rattle.comments.specs.Comments.{above_item}
use Rattle.tree.specs.Tree.{Part}
use Rattle.tree.specs.declared.class.Kinds.{Kinds}
use Rattle.tree.specs.declared.class.Class.TheVariants.{Bind, CompSpec}
use Rattle.tree.specs.Class.{kinds}
use Rattle.tree.specs.Index.{end_at, part_at, parts_from}
use Rattle.children.specs.declared.between.Bounds.{Bounds}
use Rattle.children.specs.declared.gap.End.{End}
use Rattle.children.specs.declared.gap.Span.{Span}
use Rattle.children.specs.Reading.{Child, Ending, Reading, foreign, read}
use Rattle.plan.specs.Comments.{comments}
use Rattle.children.specs.Gaps.{Gap, Gaps, gap_of, gaps, is_child, ended_by}
use Rattle.children.specs.Gaps as G
use Rattle.children.specs.Whole.{child_at, closed_by, preceded, read_from, reading_of}
use Rattle.children.specs.Lead.{Leads, leads, led, reading_after}
use Rattle.children.specs.Spans.{Spans, spanned, gap_at}
use Rattle.children.proofs.Uses.{span-child, span-reached, lead-reached}
use Rattle.children.proofs.Whole.{whole}
use Rattle.children.proofs.Lead.{whole-after}
use Rattle.children.proofs.Stretch.{stretch_both}
use Rattle.printer.specs.Print.{children, local_of}
use Rattle.printer.specs.Under.{Kid}
use Rattle.printer.specs.Walked.{around, walked, walked_after}
use Rattle.printer.specs.Reads.{Within, Whole, read_at, kids_in, Walks}
use Rattle.printer.proofs.Walked.{foreign-read, children-turn, walk_after, walk-lead, lead-none}
use Rattle.printer.proofs.Under.{kid_of}
use Rattle.printer.proofs.Readings.{behind_kid}

-- ---- the one bind of a local

-- the reading from a child on has one child at least
some-kids : (c : Child) (gs : Gaps) (ds : List Child) (e : Ending) → read_from c gs ≡ read ds e → 1 ≤ length ds
unfolding read_from
some-kids c (G.stopped g n) ds e h = foreign-read h
some-kids c (G.ending g) ds e h = let q : closed_by c g ∷ [] ≡ ds = cc in rw (← q) (omega arith)
some-kids c (G.Gaps.child g x gs) ds e h = go (read_from (child_at g x) gs) h
  where
    go : (r : Reading) → preceded (closed_by c g ∷ []) r ≡ read ds e → 1 ≤ length ds
    go (foreign n) h = foreign-read h
    go (read es f) h = let q : closed_by c g ∷ es ≡ ds = cc in rw (← q) (omega arith)

-- the one child of gaps, by its comments and its number
record Lone (gs : Gaps) (g : Gap) (x : Part) : Type 0 where
  one : (pr : ℕ → Print) → local_of pr (reading_of gs) ≡ comments g.waiting above_item ⨟ (lit "local " ⨟ pr x.number)

lone-child : (g : Gap) (x : Part) (gs : Gaps) {cs : List Child} {e : Ending} → reading_of (G.Gaps.child g x gs) ≡ read cs e → length cs ≡ 1 → Lone (G.Gaps.child g x gs) g x
unfolding reading_of read_from local_of
lone-child g x (G.stopped k n) h l = foreign-read h
lone-child g x (G.ending k) h l = record { one = λ pr. refl }
lone-child g x (G.Gaps.child k y gs) {cs} {e} h l = go (read_from (child_at k y) gs) h (some-kids (child_at k y) gs)
  where
    go : (r : Reading) → preceded (closed_by (child_at g x) k ∷ []) r ≡ read cs e → ((es : List Child) (f : Ending) → r ≡ read es f → 1 ≤ length es) → Lone (G.Gaps.child g x (G.Gaps.child k y gs)) g x
    go (foreign n) h s = foreign-read h
    go (read es f) h s = let q : closed_by (child_at g x) k ∷ es ≡ cs = cc in absurd (omega (arith, s es f refl, ap length q))

-- a local with one bind: the gap before it, and its number
module _ {image index : List ℕ} {w : Kinds} {z : Bounds} {s : Span} (k : w ≡ kinds Bind) (h : Spans image index w z.loose false z.from z.to s) (r : Whole (read_at image index Bind z nothing)) (l : length (kids_in (read_at image index Bind z nothing)) ≡ 1) where
  reads : reading_of (spanned image index w z.loose z.to s) ≡ read r.kids r.ending
  reads = rw (← h.read, k) (sym (whole Bind z.loose _) ∙ r.is)

  count : length r.kids ≡ 1
  unfolding kids_in
  count = rw r.is at l

  -- there is a child
  pub lone-there : s.end ≡ End.Child
  unfolding spanned reading_of
  lone-there = go s.end reads
    where
      go : (d : End) → reading_of (ended_by d (gap_at image index s) (part_at image index s.to) (gaps w z.loose false true (parts_from image index (end_at index s.to) z.to))) ≡ read r.kids r.ending → d ≡ End.Child
      go End.Child q = refl
      go End.Last q = let n : [] ≡ r.kids = cc in absurd (omega (arith, count, ap length n))
      go End.Foreign q = foreign-read q

  -- and it is one of the node
  pub lone-kid : {i : ℕ} → Within image index i z → Kid image index i s.to
  lone-kid n = kid_of n.at (stretch_both n.reached (span-reached h)) (omega (arith, h.inside lone-there, n.inside))

  pub lone_is : (pr : ℕ → Print) → local_of pr (read_at image index Bind z nothing) ≡ comments (gap_at image index s).waiting above_item ⨟ (lit "local " ⨟ pr s.to)
  lone_is pr =
      let c = span-child' in
      rw (whole Bind z.loose _, ← k, h.read, c) ((lone-child _ _ _ (rw c at reads) count).one pr)
    where
      span-child' : spanned image index w z.loose z.to s ≡ G.Gaps.child (gap_at image index s) (part_at image index s.to) (gaps w z.loose false true (parts_from image index (end_at index s.to) z.to))
      span-child' = sym h.read ∙ span-child h lone-there

-- ---- the CompSpecs of an object comprehension

module _ {image index : List ℕ} {i : ℕ} {w : Kinds} {z : Bounds} {s : Span} (k : w ≡ kinds CompSpec) (n : Within image index i z) (h : Leads image index w z.loose z.from z.to s) where
  -- the first is a child
  pub spec-kid : s.end ≡ End.Child → Kid image index i s.to
  spec-kid e = kid_of n.at (stretch_both n.reached (lead-reached h)) (omega (arith, h.inside e, n.inside))

  module _ (ts : List Part) (r : Whole (read_at image index CompSpec z (some ts))) where
    after : reading_after ts (leads w z.loose (parts_from image index z.from z.to)) ≡ read r.kids r.ending
    after = rw k (sym (whole-after CompSpec z.loose ts _) ∙ r.is)

    -- all of them, walked
    walked-specs : (pr : ℕ → Print) (f g : Bool → Print) → children pr f g (kids_in (read_at image index CompSpec z (some ts))) ≡ walked_after (around pr f g) ts (led image index w z.loose z.to s)
    unfolding kids_in
    walked-specs pr f g = rw (r.is, ← h.read) (walk_after (children-turn pr f g) ts _ after)

    -- there is none
    pub specs-none : (pr : ℕ → Print) (f g : Bool → Print) {t : Bool} → t ≡ is_child s.end → t ≡ false → children pr f g (kids_in (read_at image index CompSpec z (some ts))) ≡ none
    specs-none pr f g j e = walked-specs pr f g ∙ lead-none index image w z.loose z.to s (around pr f g) j e ts

    module _ {next : ℕ} {t : Span} (e : s.end ≡ End.Child) (q : next ≡ end_at index s.to) (p : Spans image index w z.loose true next z.to t) where
      -- the first, with the trailing list before it, and the others
      pub specs-some : (pr : ℕ → Print) (f g : Bool → Print)
          → children pr f g (kids_in (read_at image index CompSpec z (some ts))) ≡ around pr f g (gap_of [] ts false) s.to (gap_at image index t) (is_child t.end) ⨟ walked (around pr f g) (spanned image index (kinds CompSpec) z.loose z.to t)
      specs-some pr f g = walked-specs pr f g ∙ walk-lead s e q p (around pr f g) ts ∙ rw k

      -- a walk over the others
      pub specs-walks : Walks image index i (kinds CompSpec) z.loose z.to t
      specs-walks = rw (← k) (record {
        at = n.at;
        lies = p.lies;
        onward = p.inside;
        reached = stretch_both n.reached (stretch_both (lead-reached h) (stretch_both (rw q (behind_kid (spec-kid e))) (span-reached p)));
        inside = n.inside;
      })
