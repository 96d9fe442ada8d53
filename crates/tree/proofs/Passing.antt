-- What holds of an image that passes the tests 1 to 9.
use mathlib.Core.Path.{◌≡◌, refl, ◌∙◌}
use mathlib.Core.Bool.{Bool, true, false, ◌||◌}
use mathlib.Core.Option.{Option, none, some}
use mathlib.Core.List.{List, ◌∷◌}
use Prim.Native.Nat.{ℕ, ◌+◌, ◌*◌, ◌<◌, ◌≤◌}
use native.Mathlib.Omega.{arith}
use lib.Dec.{eqb, ltb}
use lib.ListN.{length}
use borrow.Author.Tests.{eqb-true, eqb-false, ltb-false, not-false}
use Rattle.text.specs.Basic.{sum}
use Rattle.tree.specs.Tree.{count_n, count_b, elements_of}
use Rattle.tree.specs.Image.{start_in}
use Rattle.tree.specs.Refusal.{Refusal, refused_at, refused_if, tests, first_refusal, refusal, wrong_length, out_of_limits, first_where, unknown_kind, first_misplaced, node_with_text, or_sum, wrong_sizes, not_utf8, misformed, first_nameless}
use Rattle.tree.specs.Answer.{answered, answer, passed}
use Rattle.tree.proofs.Elements.{sizes-all}

-- The image's numbers are in their limits, and no test finds an element. Test 7 is left out: no proof asks for it.
pub record Accepted (image : List ℕ) : Type 0 where
  pub long : length image ≡ 8 + 8 * count_n image + count_b image
  pub not-empty : 0 < count_n image
  pub few-elements : count_n image ≤ 4096
  pub few_bytes : count_b image ≤ 32000
  pub kinds : first_where unknown_kind (elements_of image) ≡ none
  pub places : first_misplaced (elements_of image) ≡ none
  pub nodes : first_where node_with_text (elements_of image) ≡ none
  pub sizes : start_in image (count_n image) ≡ count_b image
  pub encoded : first_where not_utf8 (elements_of image) ≡ none
  pub comments : first_where misformed (elements_of image) ≡ none
  pub names : first_nameless (elements_of image) ≡ none

-- what is no value is none
never : {A : Type 0} (x : A) → some x ≡ none → ⊥
never x h = let z : ◌≡◌ {A = ℕ} 0 1 = cc in omega arith

pub or_false : (a b : Bool) → (a || b) ≡ false → (a ≡ false) × (b ≡ false)
or_false true b h = (h, let z : ◌≡◌ {A = ℕ} 0 1 = cc in absurd (omega arith))
or_false false b h = (refl, h)

all_none : (t : Option Refusal) (ts : List (Option Refusal)) → first_refusal (t ∷ ts) ≡ none → (t ≡ none) × (first_refusal ts ≡ none)
unfolding first_refusal
all_none none ts h = (refl, h)
all_none (some r) ts h = absurd (never r h)

if_none : (k : ℕ) (b : Bool) → refused_if k b ≡ none → b ≡ false
if_none k true h = absurd (never _ h)
if_none k false h = refl

at_none : (k : ℕ) (o : Option ℕ) → refused_at k o ≡ none → o ≡ none
at_none k none h = refl
at_none k (some e) h = absurd (never _ h)

sum-none : (b : Bool) (n : ℕ) (o : Option ℕ) → or_sum b n o ≡ none → (b ≡ true) × (o ≡ none)
sum-none true n none h = (refl, refl)
sum-none false n none h = absurd (never n h)
sum-none b n (some e) h = absurd (never e h)

-- What the tests 1 and 2 leave: the image's numbers are in their limits.
pub record Measured (image : List ℕ) : Type 0 where
  pub long : length image ≡ 8 + 8 * count_n image + count_b image
  pub not-empty : 0 < count_n image
  pub few-elements : count_n image ≤ 4096
  pub few_bytes : count_b image ≤ 32000

pub measured : (image : List ℕ) → wrong_length image ≡ false → out_of_limits image ≡ false → Measured image
unfolding wrong_length out_of_limits
measured image t₁ t₂ =
    let (a, b) = or_false (ltb (length image) (8 + 8 * count_n image)) _ (or_false (ltb (length image) 4) _ t₁).1 in
    let (c, d) = or_false (eqb (count_n image) 0) _ t₂ in
    let (e, f) = or_false (ltb 4096 (count_n image)) _ d in
    let g : count_n image ≡ 0 → ⊥ = eqb-false (count_n image) 0 c in
    record { long = eqb-true _ _ (not-false _ b); not-empty = omega arith; few-elements = ltb-false 4096 (count_n image) e; few_bytes = ltb-false 32000 (count_b image) f }

pub measured-long : (image : List ℕ) → wrong_length image ≡ false → out_of_limits image ≡ false → length image ≡ 8 + 8 * count_n image + count_b image
measured-long image a b = (measured image a b).long

pub measured-some : (image : List ℕ) → wrong_length image ≡ false → out_of_limits image ≡ false → 0 < count_n image
measured-some image a b = (measured image a b).not-empty

pub ruleset measures = (measured-long, measured-some)

pub accepted : (image : List ℕ) → refusal image ≡ none → Accepted image
unfolding refusal tests wrong_sizes
accepted image h =
    let (t₁, r₁) = all_none _ _ h in
    let (t₂, r₂) = all_none _ _ r₁ in
    let (t₃, r₃) = all_none _ _ r₂ in
    let (t₄, r₄) = all_none _ _ r₃ in
    let (t₅, r₅) = all_none _ _ r₄ in
    let (t₆, r₆) = all_none _ _ r₅ in
    let (_, r₇) = all_none _ _ r₆ in
    let (t₈, r₈) = all_none _ _ r₇ in
    let (t₉, r₉) = all_none _ _ r₈ in
    let m = measured image (if_none 1 _ t₁) (if_none 2 _ t₂) in
    let (s, u) = sum-none (eqb (sum (λ x. x.size) (elements_of image)) (count_b image)) (count_n image) (first_where node_with_text (elements_of image)) (at_none 5 (wrong_sizes image (elements_of image)) t₅) in
    record {
      long = m.long;
      not-empty = m.not-empty;
      few-elements = m.few-elements;
      few_bytes = m.few_bytes;
      kinds = at_none 3 _ t₃;
      places = at_none 4 _ t₄;
      nodes = u;
      sizes = sizes-all image ∙ eqb-true _ _ s;
      encoded = at_none 6 _ t₆;
      comments = at_none 8 _ t₈;
      names = at_none 9 _ t₉;
    }

pub accepted-long : (image : List ℕ) → refusal image ≡ none → length image ≡ 8 + 8 * count_n image + count_b image
accepted-long image h = (accepted image h).long

pub accepted-few : (image : List ℕ) → refusal image ≡ none → count_n image ≤ 4096
accepted-few image h = (accepted image h).few-elements

pub accepted-small : (image : List ℕ) → refusal image ≡ none → count_b image ≤ 32000
accepted-small image h = (accepted image h).few_bytes

pub ruleset accepts = (accepted-long, accepted-few, accepted-small)

-- What follows from an answer that an image passed.
pub record Passing (image : List ℕ) (n b : ℕ) : Type 0 where
  pub unrefused : refusal image ≡ none
  pub elements : n ≡ count_n image
  pub bytes : b ≡ count_b image

pub passing : (image : List ℕ) (n b : ℕ) → passed n b ≡ answer image → Passing image n b
unfolding answer
passing image n b h = go (refusal image) refl h
  where
    go : (o : Option Refusal) → refusal image ≡ o → passed n b ≡ answered (count_n image) (count_b image) o → Passing image n b
    go none q e = record { unrefused = q; elements = cc; bytes = cc }
    go (some r) q e = let z : ◌≡◌ {A = ℕ} 0 1 = cc in absurd (omega arith)
