-- Walks over the elements of an image: what is still to be found is what was to be found at the start.
use mathlib.Core.Path.{◌≡◌, refl, ap, ◌∙◌, sym}
use mathlib.Core.Bool.{Bool, true, false, cond, not, ◌&&◌}
use mathlib.Core.Option.{Option, none, some}
use mathlib.Core.List.{List, ◌∷◌}
use Prim.Native.Nat.{ℕ, zero, suc, ◌+◌, ◌-◌, ◌<◌, ◌≤◌}
use native.Mathlib.Omega.{arith}
use native.Mathlib.Numerals.{add-one}
use lib.Dec.{eqb}
use lib.ListN.{drop}
use borrow.Author.Tests.{lt-ltb, le-ltb, not-true, not-false}
use Rattle.tree.specs.Tree.{count_n, elements_of}
use Rattle.tree.specs.Image.{kind_in, level_in, element_in}
use Rattle.tree.specs.Refusal.{first_misplaced, misplaced_in, no_ident}
use Rattle.tree.proofs.FirstWhere.{Search, misplaced_from, misplaced_search}
use Rattle.tree.proofs.Elements.{elements-cons, elements-none}

-- G i is what the walk from element i on gives; v is what the whole walk gives.
pub record Walking {A : Type 0} (image : List ℕ) (G : ℕ → A) (v : A) (i : ℕ) : Type 0 where
  pub upto : i ≤ count_n image
  pub rest : G i ≡ v

pub walking_on : {A : Type 0} {image : List ℕ} {G : ℕ → A} {v : A} {i n : ℕ} → Walking image G v i → n ≡ count_n image → i < n → G i ≡ G (i + 1) → Walking image G v (i + 1)
walking_on s e h g = record { upto = omega arith; rest = sym g ∙ s.rest }

pub walking-met : {A : Type 0} {image : List ℕ} {G : ℕ → A} {v : A} {i : ℕ} (x : A) → Walking image G v i → G i ≡ x → x ≡ v
walking-met x s g = sym g ∙ s.rest

pub walking-all_lem : {A : Type 0} {image : List ℕ} {G : ℕ → A} {v : A} {i n : ℕ} (x : A) → Walking image G v i → n ≡ count_n image → n ≤ i → G (count_n image) ≡ x → x ≡ v
walking-all_lem {A} {image} {G} {v} {i} {n} x s e h g =
    let q : count_n image ≡ i = omega (arith, s.upto) in
    sym g ∙ ap G q ∙ s.rest

module _ (image : List ℕ) (n : ℕ) (e : n ≡ count_n image) where
  pub misplaced-empty : n ≡ 0 → none ≡ first_misplaced (elements_of image)
  unfolding first_misplaced
  misplaced-empty h = rw (elements-none image 0 (omega arith))

  module _ (ne : n ≡ 0 → ⊥) (b : Bool) (p : b ≡ not (eqb (kind_in image 0) 1 && eqb (level_in image 0) 0)) where
    -- the elements begin with element 0
    begins : elements_of image ≡ element_in image 0 ∷ drop 1 (elements_of image)
    begins = elements-cons image 0 (omega arith)

    pub misplaced-first : b ≡ true → some 0 ≡ first_misplaced (elements_of image)
    unfolding first_misplaced
    misplaced-first h =
        let t : (eqb (kind_in image 0) 1 && eqb (level_in image 0) 0) ≡ false = not-true _ (sym p ∙ h) in
        rw (begins, t)

    pub misplaced-later : b ≡ false → misplaced_from image 1 ≡ first_misplaced (elements_of image)
    unfolding first_misplaced
    misplaced-later h =
        let t : (eqb (kind_in image 0) 1 && eqb (level_in image 0) 0) ≡ true = not-false _ (sym p ∙ h) in
        sym (rw (begins, t))

-- the first misplaced element, from i on
abbrev pub placing_from : List ℕ → ℕ → Option ℕ
placing_from image zero = first_misplaced (elements_of image)
placing_from image (suc i) = misplaced_from image (suc i)

placing_over : (image : List ℕ) (i : ℕ) → i ≡ count_n image → placing_from image i ≡ none
placing_over image zero e = sym (misplaced-empty image 0 e refl)
placing_over image (suc i) e = rw (e, (misplaced_search image).over)

placing-turn : (image : List ℕ) (i : ℕ) → i < count_n image → placing_from image i ≡ cond (misplaced_in image i) (some i) (placing_from image (i + 1))
placing-turn image zero h = go (not (eqb (kind_in image 0) 1 && eqb (level_in image 0) 0)) refl
  where
    go : (b : Bool) → b ≡ not (eqb (kind_in image 0) 1 && eqb (level_in image 0) 0) → first_misplaced (elements_of image) ≡ cond b (some 0) (misplaced_from image 1)
    go true p = sym (misplaced-first image (count_n image) refl (λ z. omega arith) true p refl)
    go false p = sym (misplaced-later image (count_n image) refl (λ z. omega arith) false p refl)
placing-turn image (suc i) h =
    let e : suc i - 1 ≡ i = omega arith in
    rw (add-one (suc i), e) (rw (add-one (suc i), e) at ((misplaced_search image).turn (suc i) h))

pub placing_search : (image : List ℕ) → Search image (placing_from image) (misplaced_in image)
placing_search image = record { over = placing_over image (count_n image) refl; turn = placing-turn image }

-- ---- the identifier of a Name

-- no identifier stands at a level above the Name's children, from j on
abbrev pub no_ident_from : List ℕ → ℕ → ℕ → Bool
no_ident_from image name j = no_ident (suc name) (drop j (elements_of image))

module _ (image : List ℕ) (name j n : ℕ) (e : n ≡ count_n image) (h : j < n) where
  pub ident-none : (l : ℕ) → l ≡ level_in image j → l ≤ name → no_ident_from image name j ≡ true
  unfolding no_ident
  ident-none l p q = rw (elements-cons image j (omega arith), lt-ltb (level_in image j) (suc name) (omega arith))

  -- an element in the Name's subtree
  under : (l : ℕ) → l ≡ level_in image j → name < l → no_ident_from image name j ≡ (not (eqb (level_in image j) (suc name) && eqb (kind_in image j) 90) && no_ident_from image name (j + 1))
  unfolding no_ident
  under l p q = rw (elements-cons image j (omega arith), le-ltb (level_in image j) (suc name) (omega arith))

  module _ (l : ℕ) (p : l ≡ level_in image j) (q : name < l) (b : Bool) (r : b ≡ (eqb (level_in image j) (name + 1) && eqb (kind_in image j) 90)) where
    pub ident-here : b ≡ true → no_ident_from image name j ≡ false
    ident-here t = under l p q ∙ rw (← (add-one name), ← r, t)

    pub ident-later : b ≡ false → no_ident_from image name j ≡ no_ident_from image name (j + 1)
    ident-later t = under l p q ∙ rw (← (add-one name), ← r, t)

pub ident_over : (image : List ℕ) (name : ℕ) → no_ident_from image name (count_n image) ≡ true
unfolding no_ident
ident_over image name = rw (elements-none image (count_n image) refl)
