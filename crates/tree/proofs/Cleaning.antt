-- The tests 3 to 9 in one pass: where no element offends, no test finds one.
use mathlib.Core.Path.{◌≡◌, refl, ap, ◌∙◌, sym}
use mathlib.Core.Bool.{Bool, true, false, cond, ◌&&◌, ◌||◌}
use mathlib.Core.Option.{none}
use mathlib.Core.List.{List}
use Prim.Native.Nat.{ℕ, ◌+◌, ◌*◌, ◌-◌, ◌<◌, ◌≤◌}
use native.Mathlib.Omega.{arith}
use native.Mathlib.Decide.{ℕ_discrete}
use lib.Dec.{eqb, ltb, leb}
use lib.ListN.{length, take, drop, length-drop}
use lib.Seq.{drop-drop, length-take-le}
use borrow.Author.Tests.{le-leb, lt-leb, lt-ltb, ltb-true, eqb-true, eq-eqb, ne_eqb}
use Rattle.text.specs.Text.{valid}
use Rattle.text.proofs.Lists.{and_true}
use Rattle.tree.specs.Tree.{Element, count_n, count_b, texts_of, elements_of}
use Rattle.tree.specs.Image.{kind_in, level_in, size_in, start_in, place_in, text_in, element_in}
use Rattle.tree.specs.Refusal.{unknown_kind, misplaced, first_misplaced, node_with_text, wrong_sizes, not_utf8, string_block, misformed, nameless_in, wrong_length, out_of_limits, tests, first_refusal, refusal}
use Rattle.tree.specs.Clean.{Sound, part}
use Rattle.tree.specs.declared.bytes.Header.{Header}
use Rattle.tree.proofs.Passing.{Measured, measured}
use Rattle.tree.proofs.Comments.{or_none_lem}
use Rattle.tree.proofs.Elements.{start-next, sizes-all}
use Rattle.tree.proofs.FirstWhere.{where_search, nameless_search, misplaced_search, all-fail}
use Rattle.tree.proofs.Search.{misplaced-later}

-- ---- one element

pub sound-node : (e : Element) → unknown_kind e ≡ false → e.kind < 64 → e.size ≡ 0 → Sound e
unfolding node_with_text not_utf8 string_block misformed
sound-node e u k z =
    let t : leb 64 e.kind ≡ false = lt-leb 64 e.kind (omega arith) in
    record {
      known = u;
      textless = rw (t, z);
      encoded = rw t;
      printable = ne_eqb e.kind 82 (λ q. omega arith);
      formed = rw (ne_eqb e.kind 68 (λ q. omega arith), ne_eqb e.kind 69 (λ q. omega arith), ne_eqb e.kind 65 (λ q. omega arith));
    }

pub sound-token : (e : Element) → unknown_kind e ≡ false → 64 ≤ e.kind → eqb e.kind 82 ≡ false → valid e.text ≡ true → misformed e ≡ false → Sound e
unfolding node_with_text not_utf8 string_block
sound-token e u k s v m =
    let t : leb 64 e.kind ≡ true = le-leb 64 e.kind k in
    record {
      known = u;
      textless = rw t;
      encoded = rw (t, v);
      printable = s;
      formed = m;
    }

-- the element whose kind and text were asked
sound_in : (image : List ℕ) (i : ℕ) {k : ℕ} {s : List ℕ} → k ≡ kind_in image i → s ≡ text_in image i → length s ≡ size_in image i → Sound (part k s) → Sound (element_in image i)
unfolding unknown_kind node_with_text not_utf8 string_block misformed
sound_in image i p q r h = record { known = rw (← p) h.known; textless = rw (← p, ← r) h.textless; encoded = rw (← p, ← q) h.encoded; printable = rw (← p) h.printable; formed = rw (← p, ← q) h.formed }

-- the deepest level behind an element of this kind at this level
abbrev deepest_behind : ℕ → ℕ → ℕ
deepest_behind kind level = cond (leb 64 kind) level (level + 1)

deep_ltb : (t : Bool) (l m : ℕ) → ltb (cond t l (l + 1)) m ≡ (ltb (l + 1) m || (t && ltb l m))
deep_ltb false l m = or_none_lem (ltb (l + 1) m)
deep_ltb true l m = go (ltb (l + 1) m) refl
  where
    go : (t : Bool) → ltb (l + 1) m ≡ t → ltb l m ≡ (t || ltb l m)
    go true e = lt-ltb l m (omega (arith, ltb-true (l + 1) m e))
    go false e = refl

-- an element behind another, by the deepest level that there may be
placed_as : (before e : Element) {d : ℕ} → d ≡ deepest_behind before.kind before.level → (eqb e.kind 1 || (eqb e.level 0 || (ltb 200 e.level || ltb d e.level))) ≡ misplaced before e
unfolding misplaced
placed_as before e q = rw (q, deep_ltb (leb 64 before.kind) before.level e.level)

-- ---- all elements

-- Element j offends none of the tests 3 to 9.
pub record Clean (image : List ℕ) (j : ℕ) : Type 0 where
  pub sound : Sound (element_in image j)
  pub placed : 0 < j → misplaced (element_in image (j - 1)) (element_in image j) ≡ false
  pub named : nameless_in image j ≡ false

-- No element before i does.
pub record Cleaning (image : List ℕ) (deepest at i : ℕ) : Type 0 where
  pub behind : 0 < i
  pub upto : i ≤ count_n image
  pub here : at ≡ place_in image i
  pub inside : at ≤ length image
  pub reach : deepest ≡ deepest_behind (kind_in image (i - 1)) (level_in image (i - 1))
  pub root : (kind_in image 0 ≡ 1) × (level_in image 0 ≡ 0)
  pub clean : (j : ℕ) → j < i → Clean image j

pub cleaning_first : {image : List ℕ} {b : Bool} {n p : ℕ} → Measured image → b ≡ (eqb (kind_in image 0) 1 && (eqb (level_in image 0) 0 && eqb (size_in image 0) 0)) → b ≡ true → n ≡ count_n image → p ≡ 4 + 8 * n → Cleaning image 1 (p + 4) 1
unfolding start_in unknown_kind
cleaning_first {image} {b} {n} {p} m q t e f =
    let (u, v) = and_true (eqb (kind_in image 0) 1) _ (sym q ∙ t) in
    let (x, y) = and_true (eqb (level_in image 0) 0) _ v in
    let k : kind_in image 0 ≡ 1 = eqb-true _ _ u in
    let l : level_in image 0 ≡ 0 = eqb-true _ _ x in
    let z : size_in image 0 ≡ 0 = eqb-true _ _ y in
    let first : Clean image 0 = record { sound = sound-node (element_in image 0) (rw k) (omega arith) z; placed = λ h. absurd (omega arith); named = rw k } in
    record {
      behind = omega arith;
      upto = omega (arith, m.not-empty);
      here = omega (arith, start-next image 0);
      inside = omega (arith, m.long);
      reach = rw (k, l);
      root = (k, l);
      clean = λ j h. let r : j ≡ 0 = omega arith in rw r first;
    }

-- what is lent of the image is the element's text
text-here : (image : List ℕ) (i : ℕ) {at size : ℕ} → at ≡ place_in image i → size ≡ size_in image i → take (at + size - at) (drop at image) ≡ text_in image i
unfolding text_in texts_of
text-here image i {at} {size} p q =
    let e : at + size - at ≡ size = omega arith in
    rw (e, q, p, drop-drop)

module _ {image : List ℕ} {deepest at i : ℕ} (c : Cleaning image deepest at i) where
  pub cleaning-more : {e : Header} {b : Bool} {d : ℕ} → i < count_n image → e ≡ record { kind = kind_in image i; level = level_in image i; size = size_in image i } → e.size ≤ length image - at
      → b ≡ (eqb e.kind 1 || (eqb e.level 0 || (ltb 200 e.level || ltb deepest e.level))) → b ≡ false → Sound (part e.kind (take (at + e.size - at) (drop at image))) → nameless_in image i ≡ false
      → d ≡ deepest_behind e.kind e.level → Cleaning image d (at + e.size) (i + 1)
  cleaning-more {e} n h fits t u s w g =
      let p : e.kind ≡ kind_in image i = ap (λ (x : Header). x.kind) h in
      let q : e.level ≡ level_in image i = ap (λ (x : Header). x.level) h in
      let r : e.size ≡ size_in image i = ap (λ (x : Header). x.size) h in
      let f : i + 1 - 1 ≡ i = omega arith in
      let len : length (take (at + e.size - at) (drop at image)) ≡ size_in image i = length-take-le (at + e.size - at) (drop at image) (omega (arith, length-drop at image)) ∙ omega arith in
      let m : misplaced (element_in image (i - 1)) (element_in image i) ≡ false = sym (placed_as (element_in image (i - 1)) (element_in image i) c.reach) ∙ rw (← p, ← q) (sym t ∙ u) in
      let this : Clean image i = record { sound = sound_in image i p (text-here image i c.here r) len s; placed = λ h. m; named = w } in
      record {
        behind = omega arith;
        upto = omega arith;
        here = omega (arith, c.here, start-next image i);
        inside = omega (arith, c.inside);
        reach = rw (f, ← p, ← q) g;
        root = c.root;
        clean = λ j h. go j h this (ℕ_discrete j i);
      }
    where
      go : (j : ℕ) → j < i + 1 → Clean image i → Dec (j ≡ i) → Clean image j
      go j h x (yes e) = rw e x
      go j h x (no e) = c.clean j (omega arith)

  -- all of them
  module _ {n : ℕ} (e : n ≡ count_n image) (h : n ≤ i) (w : at ≡ length image) (a : wrong_length image ≡ false) (b : out_of_limits image ≡ false) where
    q : i ≡ count_n image
    q = omega (arith, c.upto)

    all-clean : (j : ℕ) → j < count_n image → Clean image j
    all-clean j g = c.clean j (omega arith)

    all_placed : first_misplaced (elements_of image) ≡ none
    all_placed =
        sym (misplaced-later image n e (λ z. omega (arith, c.behind, c.upto)) false (rw (c.root.0, c.root.1)) refl)
        ∙ all-fail (misplaced_search image) 1 (count_n image - 1) (omega (arith, c.behind, c.upto)) (λ j g l. (all-clean j l).placed (omega arith))

    all-sized : wrong_sizes image (elements_of image) ≡ none
    unfolding wrong_sizes
    all-sized =
        let s : start_in image (count_n image) ≡ count_b image = omega (arith, c.here, ap (place_in image) q, (measured image a b).long) in
        rw (all-fail (where_search node_with_text image) 0 (count_n image) (omega arith) (λ j g l. (all-clean j l).sound.textless), ← (sizes-all image), s, eq-eqb (count_b image) (count_b image) refl)

    pub cleaning-all : refusal image ≡ none
    unfolding refusal tests first_refusal
    cleaning-all =
        rw (
          a,
          b,
          all-fail (where_search unknown_kind image) 0 (count_n image) (omega arith) (λ j g l. (all-clean j l).sound.known),
          all_placed,
          all-sized,
          all-fail (where_search not_utf8 image) 0 (count_n image) (omega arith) (λ j g l. (all-clean j l).sound.encoded),
          all-fail (where_search string_block image) 0 (count_n image) (omega arith) (λ j g l. (all-clean j l).sound.printable),
          all-fail (where_search misformed image) 0 (count_n image) (omega arith) (λ j g l. (all-clean j l).sound.formed),
          all-fail (nameless_search image) 0 (count_n image) (omega arith) (λ j g l. (all-clean j l).named),
        )
