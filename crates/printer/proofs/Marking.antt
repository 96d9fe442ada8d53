-- The laws of marks: one that is set says that the first part of its class is there, and where one is not set, none is looked for.
use Rattle.std.specs.Prelude.{◌≡◌, ℕ, zero, suc, ◌+◌, ◌-◌, ◌/◌, ◌%◌, ◌^◌, ◌<◌, ◌≤◌, max, Bool, true, false, cond, not, ◌&&◌, ◌||◌, eqb, ltb, leb, List, [], ◌∷◌}
use Rattle.std.specs.Prelude as R
use mathlib.Core.Path.{refl, sym, ap, ◌∙◌}
use mathlib.Core.Bool.{or_assoc, or-false as or-idle, false≢true}
use mathlib.Core.Option.{none as nothing, some}
use native.Mathlib.Omega.{arith}
use lib.Bits.{bit_or, or_shr, or_step}
use borrow.Author.Tests.{eq-eqb, ne_eqb, eqb-true, eqb-false, ltb-true, lt-leb, not-true}
use Rattle.text.specs.Basic.{any, present}
use Rattle.text.proofs.Below.{all_below, below, agree, same-below}
use Rattle.tree.specs.Tree.{Part}
use Rattle.tree.specs.declared.class.Kinds.{Kinds}
use Rattle.tree.specs.declared.class.Class.TheVariants as Class
use Rattle.tree.specs.Class.{kinds, left_out, one_of, of_kind, is, is_plus, nth_of, nth, plus_of, number_of}
use Rattle.tree.specs.Index.{kind_at, end_at, parts_from, Region}
use Rattle.tree.proofs.Passing.{or_false}
use Rattle.tree.proofs.Siblings.{region-part, region-next, parts-over}
use Rattle.printer.specs.Layout
use Rattle.printer.specs.Rows.{wants, want_at, wanted, want_count, marked, MarksOf, Marks}
use Rattle.printer.specs.Under.{At, parts_of}
use Rattle.printer.proofs.Under.{at-region}

-- ---- the marks of a kind

-- bit w is set for the wanted parts whose class has the kind
abbrev pub marks_all : ℕ → ℕ → Bool
marks_all k m = all_below want_count (λ w. agree (marked m w) (of_kind (want_at w).class k))

-- the marks of a kind in the table
pub marks_coded : (k : ℕ) {q m : ℕ} → q ≡ k → marks_all k m ≡ true → MarksOf q m
marks_coded k {q} {m} e t = rw e (record { of-class = same-below want_count (marked m) (λ w. of_kind (want_at w).class k) t })

-- no mark is set in 0
none-marked : (w : ℕ) → w < want_count → marked 0 w ≡ false
none-marked w h = not-true (marked 0 w) (below want_count (λ w. not (marked 0 w)) refl w h)

-- a kind behind those of all classes
pub marks_beyond : (n : ℕ) {k : ℕ} → n ≤ k → all_below want_count (λ w. ltb (kinds (want_at w).class).hi n) ≡ true → MarksOf k 0
unfolding one_of
marks_beyond n {k} h t = record { of-class = λ w v. none-marked w v ∙ sym (go w (ltb-true _ n (below want_count (λ w. ltb (kinds (want_at w).class).hi n) t w v))) }
  where
    go : (w : ℕ) → (kinds (want_at w).class).hi < n → of_kind (want_at w).class k ≡ false
    go w v = rw (lt-leb k (kinds (want_at w).class).hi (omega arith)) (no (leb (kinds (want_at w).class).lo k))
      where
        no : (b : Bool) → ((b && false) && not (left_out (kinds (want_at w).class).but k)) ≡ false
        no true = refl
        no false = refl

-- ---- the marks of a node's parts

-- all marks are those of any parts, if they need not be sure
pub marks-any : (ps : List Part) {sure : Bool} → not sure ≡ true → Marks ps sure 18446744073709551615
marks-any ps {sure} n = record {
  absent = λ w h u. absurd (false≢true (sym u ∙ below want_count (λ w. marked 18446744073709551615 w) refl w h));
  there = λ s. absurd (false≢true (sym (not-true sure n) ∙ s));
}

-- a mark is set in one of two masks
or_marked : (a b w : ℕ) → marked (bit_or a b) w ≡ (marked a w || marked b w)
or_marked a b w = go (marked a w) refl (marked b w) refl
  where
    X : ℕ
    X = bit_or a b / 2 ^ w % 2

    larger : X ≡ max (a / 2 ^ w % 2) (b / 2 ^ w % 2)
    larger = omega (arith, or_shr a b w, or_step (a / 2 ^ w) (b / 2 ^ w))

    go : (p : Bool) → marked a w ≡ p → (q : Bool) → marked b w ≡ q → marked (bit_or a b) w ≡ (p || q)
    go true e q f = eq-eqb X 1 (omega (arith, larger, eqb-true (a / 2 ^ w % 2) 1 e))
    go false e true f = eq-eqb X 1 (omega (arith, larger, eqb-true (b / 2 ^ w % 2) 1 f))
    go false e false f =
        let n : a / 2 ^ w % 2 ≡ 1 → ⊥ = eqb-false (a / 2 ^ w % 2) 1 e in
        let m : b / 2 ^ w % 2 ≡ 1 → ⊥ = eqb-false (b / 2 ^ w % 2) 1 f in
        ne_eqb X 1 (λ p. omega (arith, larger, p))

-- Of the siblings from a on that begin before `end`, those from j on are still to be marked.
pub record Marking (image index : List ℕ) (a end m j : ℕ) : Type 0 where
  pub region : Region image index j end
  pub rest : (w : ℕ) → w < want_count → any (is (want_at w).class) (parts_from image index a end) ≡ (marked m w || any (is (want_at w).class) (parts_from image index j end))

module _ {image index : List ℕ} {a end : ℕ} where
  pub marking-none : {i : ℕ} → At image index i → a ≡ i + 1 → end ≡ end_at index i → Marking image index a end 0 a
  marking-none t e f = record { region = at-region t e f; rest = λ w h. rw (none-marked w h) }

  module _ {m j : ℕ} (r : Marking image index a end m j) where
    pub marking-more : {k n q : ℕ} → j < end → k ≡ end_at index j → q ≡ kind_at index j → MarksOf q n → Marking image index a end (bit_or m n) k
    unfolding any
    marking-more {k} {n} {q} h f g s =
        rw f (record {
          region = region-next r.region h;
          rest = λ w v.
              r.rest w v ∙ ap (λ x. marked m w || any (is (want_at w).class) x) (region-part r.region h)
              ∙ rw (or_marked m n w, s.of-class w v, g) (sym (or_assoc (marked m w) (of_kind (want_at w).class (kind_at index j)) _));
        })

    pub marking-all : (i : ℕ) {sure : Bool} → a ≡ i + 1 → end ≡ end_at index i → end ≤ j → Marks (parts_of image index i) sure m
    unfolding any
    marking-all i e f h = rw (← e, ← f) (record { absent = λ w v u. told w v u; there = λ s w v u. told w v u })
      where
        told : (w : ℕ) → w < want_count → {b : Bool} → marked m w ≡ b → any (is (want_at w).class) (parts_from image index a end) ≡ b
        told w v u = r.rest w v ∙ rw (parts-over index image j end h) (or-idle (marked m w)) ∙ u

-- ---- what is not there

-- none of the parts is of these kinds
nth-absent : (w : Kinds) (n : ℕ) (ps : List Part) → any (λ x. one_of w x.kind) ps ≡ false → nth_of w n ps ≡ nothing
unfolding nth_of any
nth-absent w n [] h = refl
nth-absent w zero (x ∷ xs) h =
    let (a, b) = or_false (one_of w x.kind) (any (λ x. one_of w x.kind) xs) h in
    rw a (nth-absent w zero xs b)
nth-absent w (suc n) (x ∷ xs) h =
    let (a, b) = or_false (one_of w x.kind) (any (λ x. one_of w x.kind) xs) h in
    rw a (nth-absent w (suc n) xs b)

-- nor a `+`
plus-absent : (ps : List Part) → any (is Class.Operator) ps ≡ false → plus_of ps ≡ nothing
unfolding plus_of is_plus any
plus-absent [] h = refl
plus-absent (x ∷ xs) h =
    let (a, b) = or_false (is Class.Operator x) (any (is Class.Operator) xs) h in
    rw a (plus-absent xs b)

module _ {ps : List Part} {m : ℕ} (k : Marks ps false m) {r : Bool} where
  -- a wanted part that is not marked
  pub want-absent : (w : ℕ) → w < want_count → r ≡ marked m w → not r ≡ true → nothing ≡ number_of (nth (want_at w).class (want_at w).place ps)
  want-absent w h e u = rw (nth-absent (kinds (want_at w).class) (want_at w).place ps (k.absent w h (sym e ∙ not-true r u)))

  -- the `+` of a field, where no operator is marked
  pub plus-unmarked : r ≡ marked m 0 → not r ≡ true → nothing ≡ number_of (plus_of ps)
  unfolding wants
  plus-unmarked e u = rw (plus-absent ps (k.absent 0 (omega arith) (sym e ∙ not-true r u)))

-- ---- what is there

-- the first part of these kinds is there if any is
first-there : (w : Kinds) (ps : List Part) → any (λ x. one_of w x.kind) ps ≡ present (nth_of w 0 ps)
unfolding nth_of any
first-there w [] = refl
first-there w (x ∷ xs) = go (one_of w x.kind) (first-there w xs)
  where
    go : (b : Bool) → any (λ x. one_of w x.kind) xs ≡ present (nth_of w 0 xs) → (b || any (λ x. one_of w x.kind) xs) ≡ present (cond b (some x) (nth_of w 0 xs))
    go true h = refl
    go false h = h

-- a wanted part that is the first of its kinds, by its mark
pub there-marked : {ps : List Part} {m : ℕ} {o : R.Option ℕ} (w : ℕ) {n : ℕ} {r : Bool} → Marks ps true m → w < want_count → o ≡ R.Some w → n ≡ (want_at w).place → n ≡ 0 → r ≡ marked m w → r ≡ any (Layout.found ps) (wanted o)
unfolding wanted any
there-marked {ps} {m} w k h z p q e =
    let o : (want_at w).place ≡ 0 = sym p ∙ q in
    rw (z, o, ← first-there (kinds (want_at w).class) ps) (e ∙ told (marked m w) refl ∙ sym (or-idle (any (is (want_at w).class) ps)))
  where
    told : (b : Bool) → marked m w ≡ b → marked m w ≡ any (is (want_at w).class) ps
    told true u = u ∙ sym (k.there refl w h u)
    told false u = u ∙ sym (k.absent w h u)
