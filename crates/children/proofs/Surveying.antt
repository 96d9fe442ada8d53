-- The loop of `survey_from`, whole readings, and what a gap's tally says.
use mathlib.Core.Path.{◌≡◌, refl, ap, ◌∙◌, sym}
use mathlib.Core.Bool.{Bool, true, false, not, ◌||◌}
use mathlib.Core.List.{List}
use Prim.Native.Nat.{ℕ, suc, ◌+◌, ◌-◌, ◌<◌}
use native.Mathlib.Omega.{arith}
use native.Mathlib.Numerals.{add-one}
use native.Mathlib.Nat.{add-zero}
use lib.Dec.{leb}
use borrow.Author.Tests.{not-true, not-false}
use Rattle.text.specs.Basic.{is_nil, any}
use Rattle.tree.specs.declared.class.Kinds.{Kinds}
use Rattle.tree.specs.Index.{Region, parts_from, part_at, end_at}
use Rattle.tree.proofs.Siblings.{region-next, region-past}
use Rattle.children.specs.declared.gap.End.{End}
use Rattle.children.specs.declared.gap.Span.{Span}
use Rattle.children.specs.declared.survey.Outline.{Outline}
use Rattle.children.specs.Gaps as G
use Rattle.children.specs.Gaps.{bare, gaps, newlines_at, last_gap, is_child, is_foreign, ended_by, Sums, gap_sums}
use Rattle.children.specs.Reading.{newlines_before, newlines_back}
use Rattle.children.specs.Whole.{sums_of}
use Rattle.children.specs.Lead.{Leads, led, child_after, reading_after, last_after, SurveyedAfter}
use Rattle.children.specs.Spans.{Spans, spanned, gap_at, Surveying, Outlines, SurveyedFrom, surveyed}
use Rattle.children.proofs.Whole.{first-sums}
use Rattle.children.proofs.Uses.{child_is, child_not, foreign_is, last_is}
use Rattle.children.proofs.Stretch.{jumps-le}

-- The survey so far: what the gaps from s on come to, behind the children so far, is what those from the first on come to.
pub record Outlining (index image : List ℕ) (w : Kinds) (loose : Bool) (b : ℕ) (s₀ : Span) (k₀ : ℕ) (m₀ : Bool) (s : Span) (k : ℕ) (m : Bool) (n : ℕ) : Type 0 where
  pub at : Surveying image index b s k
  pub lines : n ≡ newlines_at (gap_at image index s)
  pub rest : gap_sums k₀ m₀ (spanned image index w loose b s₀) ≡ gap_sums k m (spanned image index w loose b s)
  pub last : last_gap (spanned image index w loose b s₀) ≡ last_gap (spanned image index w loose b s)

module _ {index image : List ℕ} {w : Kinds} {l : Bool} {b : ℕ} {s₀ : Span} {k₀ : ℕ} {m₀ : Bool} {s : Span} {k : ℕ} {m : Bool} {n : ℕ} (K : Outlining index image w l b s₀ k₀ m₀ s k m n) where
  at-child : s.end ≡ End.Child → gap_sums k m (spanned image index w l b s) ≡ gap_sums (suc k) (m || leb 1 n) (gaps w l false true (parts_from image index (end_at index s.to) b))
  unfolding spanned gap_sums
  at-child e = rw (e, K.lines)

  last-child : s.end ≡ End.Child → last_gap (spanned image index w l b s) ≡ last_gap (gaps w l false true (parts_from image index (end_at index s.to) b))
  unfolding spanned last_gap
  last-child e = rw e

  at_last : s.end ≡ End.Last → gap_sums k m (spanned image index w l b s) ≡ G.sums k m (leb 2 n) (gap_at image index s).waiting
  unfolding spanned gap_sums
  at_last e = rw (e, K.lines)

  at-foreign : s.end ≡ End.Foreign → gap_sums k m (spanned image index w l b s) ≡ G.foreign_at s.to
  unfolding spanned gap_sums
  at-foreign e = rw e

  last-here : (s.end ≡ End.Child → ⊥) → last_gap (spanned image index w l b s) ≡ gap_at image index s
  unfolding spanned last_gap
  last-here e = go s.end e
    where
      go : (d : End) → (d ≡ End.Child → ⊥) → last_gap (ended_by d (gap_at image index s) (part_at image index s.to) (gaps w l false true (parts_from image index (end_at index s.to) b))) ≡ gap_at image index s
      go End.Child e = absurd (e refl)
      go End.Last e = refl
      go End.Foreign e = refl

  module _ {t : Bool} (i : t ≡ is_child s.end) (p : t ≡ false) {u : Bool} (v : u ≡ is_foreign s.end) where
    here : gap_at image index s ≡ last_gap (spanned image index w l b s₀)
    here = sym (K.last ∙ last-here (child_not s.end i p))

    -- the reading comes to its end
    pub outlining-all : u ≡ false → SurveyedFrom image index w l b s₀ k₀ m₀ (record { children = k; many = m; blank = leb 2 n; last = s })
    unfolding surveyed
    outlining-all z =
        let e = last_is s.end i p v z in
        record { outlines = rw (K.rest ∙ at_last e) (record { lies = K.at.lies; ends = e; told = refl; read = rw e }); last = here }

    -- a foreign element stops it
    pub outlining-stopped : {r : Outline} → u ≡ true → r ≡ record { children = 0; many = false; blank = false; last = s } → SurveyedFrom image index w l b s₀ k₀ m₀ r
    unfolding surveyed
    outlining-stopped z q =
        let e = foreign_is s.end v z in
        rw q (record { outlines = rw (K.rest ∙ at-foreign e) (record { lies = K.at.lies; ends = e; told = refl; read = rw e }); last = here })

  module _ {t : Bool} (i : t ≡ is_child s.end) (p : t ≡ true) where
    child : s.end ≡ End.Child
    child = child_is s.end i p

    module _ (next : ℕ) (q : next ≡ end_at index s.to) (s' : Span) (h : Spans image index w l true next b s') where
      behind : s.to < s'.to
      behind = omega (arith, region-past K.at.onward (K.at.inside child), q, h.begins, jumps-le h.lies.first.table h.lies.first.jumps, jumps-le h.lies.second.table h.lies.second.jumps)

      pub outlining-less : b - s'.to < b - s.to
      outlining-less = omega (arith, behind, K.at.inside child)

      pub outlining-more : (n' : ℕ) → n' ≡ newlines_at (gap_at image index s') → Outlining index image w l b s₀ k₀ m₀ s' (k + 1) (m || leb 1 n) n'
      outlining-more n' z = record {
        at = record { lies = h.lies; onward = h.onward; inside = h.inside; few = omega (arith, behind, K.at.few) };
        lines = z;
        rest = K.rest ∙ at-child child ∙ rw (add-one k) (ap (gap_sums (suc k) (m || leb 1 n)) (rw q at h.read));
        last = K.last ∙ last-child child ∙ ap last_gap (rw q at h.read);
      }

-- ---- the whole of a reading with a trailing list

module _ {index image : List ℕ} {w : Kinds} {l : Bool} {from b : ℕ} {s : Span} (h : Leads image index w l from b s) (t : Span) where
  -- what it comes to, by its first gap
  abbrev After : Sums
  After = sums_of (reading_after (gap_at image index t).waiting (led image index w l b s))

  by-lead : {r : Outline} → Outlines image index After r → bare (gap_at image index r.last) ≡ bare (last_after (led image index w l b s)) → SurveyedAfter image index w l t from b r
  by-lead x y = record { outlines = rw h.read x; last = rw h.read y }

  -- a foreign element stops it before the first child
  pub after-stopped : {u : Bool} {r : Outline} → u ≡ is_foreign s.end → u ≡ true → r ≡ record { children = 0; many = false; blank = false; last = s } → SurveyedAfter image index w l t from b r
  unfolding led reading_after sums_of surveyed last_after
  after-stopped v z q =
      let e = foreign_is s.end v z in
      let x : After ≡ G.foreign_at s.to = rw e in
      rw q (by-lead (rw x (record { lies = h.lies; ends = e; told = refl; read = rw e })) (rw e))

  -- no child
  pub after-alone : {c u : Bool} {n : ℕ} {r : Outline} → c ≡ is_child s.end → not c ≡ true → u ≡ is_foreign s.end → u ≡ false → n ≡ newlines_before (gap_at image index s).waiting
      → r ≡ record { children = 0; many = false; blank = leb 2 n; last = s } → SurveyedAfter image index w l t from b r
  unfolding led reading_after sums_of surveyed any newlines_back last_after
  after-alone {c} {u} {n} i p v z d q =
      let e = last_is s.end i (not-true c p) v z in
      let x : After ≡ G.sums 0 false (leb 2 n) (gap_at image index s).waiting = rw (e, d, add-zero (newlines_before (gap_at image index s).waiting)) in
      rw q (by-lead (rw x (record { lies = h.lies; ends = e; told = refl; read = rw e })) (rw e))

  module _ {c : Bool} (i : c ≡ is_child s.end) (p : not c ≡ false) {q : Bool} (z : q ≡ is_nil (gap_at image index s).waiting) where
    led-child : s.end ≡ End.Child
    led-child = child_is s.end i (not-false c p)

    -- an error bars the first child
    pub after-barred : {o : Span} {r : Outline} → not q ≡ true → o ≡ record { from = s.from; cut = s.cut; to = s.to; had = s.had; end = End.Foreign; tally = s.tally } → r ≡ record { children = 0; many = false; blank = false; last = o } → SurveyedAfter image index w l t from b r
    unfolding led reading_after sums_of surveyed last_after
    after-barred k j d =
        let x : After ≡ G.foreign_at s.to = rw (led-child, ← z, not-true q k) in
        rw (d, j) (by-lead (rw x (record { lies = record { first = h.lies.first; second = h.lies.second; tells = h.lies.tells; few = h.lies.few }; ends = refl; told = refl; read = refl })) (rw (led-child, ← z, not-true q k)))

    -- the first child takes the list
    taken : not q ≡ false → {m : ℕ} → m ≡ newlines_before (gap_at image index t).waiting → After ≡ gap_sums 1 (leb 1 m) (gaps w l false true (parts_from image index (end_at index s.to) b))
    unfolding led reading_after newlines_back
    taken k {m} d =
        rw (led-child, ← z, not-false q k)
        (sym (first-sums (child_after (gap_at image index t).waiting (part_at image index s.to)) (gaps w l false true (parts_from image index (end_at index s.to) b)))
        ∙ ap (λ (i : ℕ). gap_sums 1 (leb 1 i) (gaps w l false true (parts_from image index (end_at index s.to) b))) (add-zero (newlines_before (gap_at image index t).waiting) ∙ sym d))

    last_taken : not q ≡ false → last_after (led image index w l b s) ≡ last_gap (gaps w l false true (parts_from image index (end_at index s.to) b))
    unfolding led last_after
    last_taken k = rw (led-child, ← z, not-false q k)

    module _ {next : ℕ} (n : next ≡ end_at index s.to) where
      pub after-region : Region image index next b
      after-region = rw n (region-next h.onward (h.inside led-child))

      module _ {g : Span} (k : Spans image index w l true next b g) where
        pub after-start : Surveying image index b g 1
        after-start = record {
          lies = k.lies;
          onward = k.onward;
          inside = k.inside;
          few = omega (arith, region-past h.onward (h.inside led-child), n, k.begins, jumps-le k.lies.first.table k.lies.first.jumps, jumps-le k.lies.second.table k.lies.second.jumps);
        }

        pub after-whole : {m : ℕ} {r : Outline} → not q ≡ false → m ≡ newlines_before (gap_at image index t).waiting → SurveyedFrom image index w l b g 1 (leb 1 m) r → SurveyedAfter image index w l t from b r
        after-whole {m} i d v =
            let r : gaps w l false true (parts_from image index (end_at index s.to) b) ≡ spanned image index w l b g = rw n at k.read in
            by-lead (rw (taken i d ∙ ap (gap_sums 1 (leb 1 m)) r) v.outlines) (ap bare (v.last ∙ sym (last_taken i ∙ ap last_gap r)))
