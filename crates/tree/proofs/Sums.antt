-- The sum of the lengths of an image's elements.
use mathlib.Core.Path.{◌≡◌, refl, sym, ap, ◌∙◌}
use mathlib.Core.Bool.{true, false, false≢true}
use mathlib.Core.Option.{none, some}
use mathlib.Core.List.{List}
use Prim.Native.Nat.{ℕ, ◌+◌, ◌*◌, ◌<◌, ◌≤◌}
use native.Mathlib.Omega.{arith}
use native.Mathlib.Numerals.{add-one}
use Rattle.text.specs.Basic.{sum}
use borrow.Author.Tests.{eq-eqb, ne_eqb}
use Rattle.tree.specs.Tree.{Element, count_n, count_b, elements_of}
use Rattle.tree.specs.Image.{size_in, start_in}
use Rattle.tree.specs.Refusal.{first_where, node_with_text, wrong_sizes}
use Rattle.tree.specs.Answer.{found}
use Rattle.numbers.specs.declared.Element as number
use Rattle.std.specs.Prelude.{Option, Some, None, is_some}
use Rattle.tree.proofs.Elements.{sizes-all}

-- The sum so far; each length is below 2 ^ 32.
pub record Summing (image : List ℕ) (total i : ℕ) : Type 0 where
  pub upto : i ≤ count_n image
  pub few : total ≤ i * 4294967295
  pub so_far : total ≡ start_in image i

pub summing_none : (image : List ℕ) → Summing image 0 0
unfolding start_in
summing_none image = record { upto = omega arith; few = omega arith; so_far = refl }

pub summing_more : {image : List ℕ} {total i n : ℕ} (size : ℕ) → Summing image total i → n ≡ count_n image → i < n → size ≡ size_in image i → size < 4294967296 → Summing image (total + size) (i + 1)
unfolding start_in
summing_more {image} {total} {i} size s e h p q = record { upto = omega arith; few = omega (arith, s.few); so_far = rw (add-one i, p) (ap (λ (t : ℕ). t + size_in image i) s.so_far) }

pub summing_all : {image : List ℕ} {total i n : ℕ} → Summing image total i → n ≡ count_n image → n ≤ i → total ≡ sum (λ (e : Element). e.size) (elements_of image)
summing_all {image} {total} {i} s e h =
    let q : i ≡ count_n image = omega (arith, s.upto) in
    s.so_far ∙ ap (start_in image) q ∙ sizes-all image

-- ---- test 5, from its two halves

pub sizes-node : (image : List ℕ) (f : Option number.Element) → found f ≡ first_where node_with_text (elements_of image) → is_some f ≡ true → found f ≡ wrong_sizes image (elements_of image)
unfolding wrong_sizes
sizes-node image (Some x) e h = rw (← e)
sizes-node image None e h = absurd (false≢true h)

-- no node is found
unfound : (image : List ℕ) (f : Option number.Element) → found f ≡ first_where node_with_text (elements_of image) → is_some f ≡ false → first_where node_with_text (elements_of image) ≡ none
unfound image (Some x) e h = absurd (false≢true (sym h))
unfound image None e h = sym e

module _ (image : List ℕ) (f : Option number.Element) (e : found f ≡ first_where node_with_text (elements_of image)) (h : is_some f ≡ false) {t b : ℕ} (p : t ≡ sum (λ (x : Element). x.size) (elements_of image)) (q : b ≡ count_b image) where
  pub sizes-right : t ≡ b → none ≡ wrong_sizes image (elements_of image)
  unfolding wrong_sizes
  sizes-right r = rw (unfound image f e h, ← p, ← q, eq-eqb t b r)

  pub sizes-wrong : {n : ℕ} → n ≡ count_n image → (t ≡ b → ⊥) → some n ≡ wrong_sizes image (elements_of image)
  unfolding wrong_sizes
  sizes-wrong i r = rw (unfound image f e h, ← p, ← q, ne_eqb t b r, i)
