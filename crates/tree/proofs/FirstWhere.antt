-- A search over the elements of an image, one element at a time.
use mathlib.Core.Path.{◌≡◌, refl, ◌∙◌, sym}
use mathlib.Core.Bool.{Bool, true, false, cond}
use mathlib.Core.Option.{Option, none, some}
use mathlib.Core.List.{List}
use Prim.Native.Nat.{ℕ, zero, suc, ◌+◌, ◌-◌, ◌<◌, ◌≤◌}
use native.Mathlib.Omega.{arith}
use native.Mathlib.Nat.{sub-zero}
use lib.ListN.{drop}
use Rattle.tree.specs.Tree.{Element, count_n, elements_of}
use Rattle.tree.specs.Image.{element_in}
use Rattle.tree.specs.Refusal.{first_where, first_number, misplaced, misplaced_after, first_nameless, nameless_in}
use Rattle.tree.proofs.Elements.{elements-cons, elements-none}

-- A search: it gives the first element whose test T holds.
pub record Search (image : List ℕ) (G : ℕ → Option ℕ) (T : ℕ → Bool) : Type 0 where
  pub over : G (count_n image) ≡ none
  pub turn : (i : ℕ) → i < count_n image → G i ≡ cond (T i) (some i) (G (i + 1))

-- the first element that passes a test
pub where_search : (f : Element → Bool) (image : List ℕ) → Search image (λ i. first_where f (drop i (elements_of image))) (λ i. f (element_in image i))
unfolding first_where
where_search f image = record { over = rw (elements-none image (count_n image) refl); turn = λ i h. rw (elements-cons image i h) }

-- the first Name without an identifier
pub nameless_search : (image : List ℕ) → Search image (λ i. first_nameless (drop i (elements_of image)))
    (nameless_in image)
unfolding first_nameless
nameless_search image = record { over = rw (elements-none image (count_n image) refl); turn = λ i h. rw (elements-cons image i h) }

-- the first misplaced element, from i on, behind the first
abbrev pub misplaced_from : List ℕ → ℕ → Option ℕ
misplaced_from image i = misplaced_after (element_in image (i - 1)) (drop i (elements_of image))

pub misplaced_search : (image : List ℕ) → Search image (misplaced_from image) (λ i. misplaced (element_in image (i - 1)) (element_in image i))
unfolding misplaced_after
misplaced_search image =
    record {
      over = rw (elements-none image (count_n image) refl);
      turn = λ i h. let e : i + 1 - 1 ≡ i = omega arith in rw (elements-cons image i h, e);
    }

-- What is still to be found of n numbers, from i on, is what was to be found at the start.
pub record Numbering (t : ℕ → Bool) (n i : ℕ) : Type 0 where
  pub rest : first_number t i (n - i) ≡ first_number t 0 n

pub numbering-none : (t : ℕ → Bool) (n : ℕ) → Numbering t n 0
numbering-none t n = record { rest = rw sub-zero }

module _ {t : ℕ → Bool} {n i : ℕ} (s : Numbering t n i) (h : i < n) {b : Bool} (e : b ≡ t i) where
  turn : first_number t i (n - i) ≡ cond (t i) (some i) (first_number t (i + 1) (n - (i + 1)))
  unfolding first_number
  turn = let q : n - i ≡ suc (n - (i + 1)) = omega arith in rw q

  pub numbering-more : b ≡ false → Numbering t n (i + 1)
  numbering-more f = record { rest = rw (← e, f) at (sym turn ∙ s.rest) }

  pub numbering-met : b ≡ true → some i ≡ first_number t 0 n
  numbering-met f = rw (← e, f) at (sym turn ∙ s.rest)

pub numbering-all : {t : ℕ → Bool} {n i : ℕ} → Numbering t n i → n ≤ i → none ≡ first_number t 0 n
unfolding first_number
numbering-all {t} {n} {i} s h = let q : n - i ≡ 0 = omega arith in rw q at s.rest

-- ---- where nothing is found, no test holds

pub split-none : (b : Bool) (i : ℕ) (o : Option ℕ) → cond b (some i) o ≡ none → (b ≡ false) × (o ≡ none)
split-none true i o h = let z : ◌≡◌ {A = ℕ} 0 1 = cc in absurd (omega arith)
split-none false i o h = (refl, h)

module _ {image : List ℕ} {G : ℕ → Option ℕ} {T : ℕ → Bool} (w : Search image G T) where
  -- the first of the d elements from i on, which are the last, whose test holds
  pub numbered : (i d : ℕ) → i + d ≡ count_n image → first_number T i d ≡ G i
  unfolding first_number
  numbered i zero e = let q : i ≡ count_n image = omega arith in rw (q, w.over)
  numbered i (suc d) e = rw (w.turn i (omega arith), numbered (i + 1) d (omega arith))

  -- the search behind an element finds nothing either
  pub still-none : (a d : ℕ) → a + d ≤ count_n image → G a ≡ none → G (a + d) ≡ none
  still-none a zero h g = let e : a + 0 ≡ a = omega arith in rw e g
  still-none a (suc d) h g =
      let e : a + suc d ≡ a + d + 1 = omega arith in
      rw e (split-none (T (a + d)) (a + d) (G (a + d + 1)) (sym (w.turn (a + d) (omega arith)) ∙ still-none a d (omega arith) g)).1

  pub never : (i : ℕ) → i < count_n image → G i ≡ none → T i ≡ false
  never i h g = (split-none (T i) i (G (i + 1)) (sym (w.turn i h) ∙ g)).0

  -- where each fails the test, nothing is found; d is how many elements are left
  pub all-fail : (a d : ℕ) → count_n image ≡ a + d → ((j : ℕ) → a ≤ j → j < count_n image → T j ≡ false) → G a ≡ none
  all-fail a zero e f = let q : a ≡ count_n image = omega arith in rw q w.over
  all-fail a (suc d) e f = w.turn a (omega arith) ∙ rw (f a (omega arith) (omega arith)) (all-fail (a + 1) d (omega arith) (λ j h k. f j (omega arith) k))

-- where no element is found, each fails the test
pub where_never : (f : Element → Bool) (image : List ℕ) (i : ℕ) → i < count_n image → first_where f (elements_of image) ≡ none → f (element_in image i) ≡ false
where_never f image i h g =
    let e : 0 + i ≡ i = omega arith in
    never (where_search f image) i h (rw e at (still-none (where_search f image) 0 i (omega arith) g))
