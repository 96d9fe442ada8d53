-- Which bytes are white space: rules that are tested at each of the 25 code points, and back.
use mathlib.Core.Path.{◌≡◌, refl, sym}
use mathlib.Core.Bool.{Bool, true, false, ◌&&◌, ◌||◌, false≢true}
use mathlib.Core.List.{List, [], ◌∷◌}
use Prim.Native.Nat.{ℕ, ◌+◌, ◌*◌, ◌-◌, ◌<◌, ◌≤◌}
use native.Mathlib.Omega.{arith}
use lib.Dec.{eqb, leb}
use lib.ListN.{length}
use borrow.Author.Tests.{eqb-true, leb-true}
use Rattle.text.specs.Basic.{any, all, same_bytes}
use Rattle.text.specs.Text.{is_white, white_space, utf8}
use Rattle.text.proofs.WhiteRule.{either, white_rule}
use Rattle.text.proofs.Below.{below}
use Rattle.text.proofs.Lists.{and_true}

-- the test of two bytes, read as one number
abbrev pair_test : ℕ → Bool
pair_test k = eqb k 0xc285 || eqb k 0xc2a0

-- the test of three bytes, read as one number
abbrev triple_test : ℕ → Bool
triple_test k = (((((eqb k 0xe19a80 || (leb 0xe28080 k && leb k 0xe2808a)) || eqb k 0xe280a8) || eqb k 0xe280a9) || eqb k 0xe280af) || eqb k 0xe2819f) || eqb k 0xe38080

-- the tests of one, two and three bytes; no character of white space has another length
white_test : List ℕ → Bool
white_test [] = false
white_test (a ∷ []) = true
white_test (a ∷ b ∷ []) = pair_test (a * 0x100 + b)
white_test (a ∷ b ∷ c ∷ []) = triple_test (a * 0x10000 + b * 0x100 + c)
white_test (a ∷ b ∷ c ∷ d ∷ s) = false

white_tested : (g : List ℕ) → is_white g ≡ true → white_test g ≡ true
unfolding white_test all white_space utf8
white_tested = white_rule white_test refl

-- two tests that imply each other
same_test : (a b : Bool) → (a ≡ true → b ≡ true) → (b ≡ true → a ≡ true) → a ≡ b
same_test true b f g = sym (f refl)
same_test false true f g = g refl
same_test false false f g = refl

-- bytes that make the same number as those of a character
pair_at : (a b : ℕ) → a < 256 → b < 256 → (x y : ℕ) → (x < 256) × (y < 256) → is_white (x ∷ y ∷ []) ≡ true → eqb (a * 0x100 + b) (x * 0x100 + y) ≡ true → is_white (a ∷ b ∷ []) ≡ true
pair_at a b h i x y l w e =
    let k : a * 0x100 + b ≡ x * 0x100 + y = eqb-true _ _ e in
    let p : a ≡ x = omega arith in
    let q : b ≡ y = omega arith in
    rw (p, q) w

triple_at : (a b c : ℕ) → a < 256 → b < 256 → c < 256 → (x y z : ℕ) → (x < 256) × ((y < 256) × (z < 256)) → is_white (x ∷ y ∷ z ∷ []) ≡ true
    → eqb (a * 0x10000 + b * 0x100 + c) (x * 0x10000 + y * 0x100 + z) ≡ true → is_white (a ∷ b ∷ c ∷ []) ≡ true
triple_at a b c h i j x y z l w e =
    let k : a * 0x10000 + b * 0x100 + c ≡ x * 0x10000 + y * 0x100 + z = eqb-true _ _ e in
    let p : a ≡ x = omega arith in
    let q : b ≡ y = omega arith in
    let r : c ≡ z = omega arith in
    rw (p, q, r) w

-- U+2000 to U+200A
triple_between : (a b c : ℕ) → a < 256 → b < 256 → c < 256 → (leb 0xe28080 (a * 0x10000 + b * 0x100 + c) && leb (a * 0x10000 + b * 0x100 + c) 0xe2808a) ≡ true → is_white (a ∷ b ∷ c ∷ []) ≡ true
unfolding is_white any same_bytes white_space utf8
triple_between a b c h i j e =
    let (u, v) = and_true _ _ e in
    let m : 0xe28080 ≤ a * 0x10000 + b * 0x100 + c = leb-true _ _ u in
    let n : a * 0x10000 + b * 0x100 + c ≤ 0xe2808a = leb-true _ _ v in
    let p : a ≡ 0xe2 = omega arith in
    let q : b ≡ 0x80 = omega arith in
    let k : c - 0x80 < 11 = omega arith in
    let r : 0x80 + (c - 0x80) ≡ c = omega arith in
    rw (p, q) (rw r at (below 11 (λ d. is_white (0xe2 ∷ 0x80 ∷ (0x80 + d) ∷ [])) refl (c - 0x80) k))

pub pair_white : (a b : ℕ) → a < 256 → b < 256 → pair_test (a * 0x100 + b) ≡ is_white (a ∷ b ∷ [])
unfolding is_white any same_bytes white_space utf8 white_test
pair_white a b h i =
    let at = pair_at a b h i in
    same_test _ _ (λ t. either _ _ t (at 0xc2 0x85 (omega arith) refl) (at 0xc2 0xa0 (omega arith) refl)) (white_tested (a ∷ b ∷ []))

pub triple_white : (a b c : ℕ) → a < 256 → b < 256 → c < 256 → triple_test (a * 0x10000 + b * 0x100 + c) ≡ is_white (a ∷ b ∷ c ∷ [])
unfolding is_white any same_bytes white_space utf8 white_test
triple_white a b c h i j =
    let at = triple_at a b c h i j in
    same_test _ _
    (λ t. either _ _ t
    (λ t. either _ _ t
    (λ t. either _ _ t
    (λ t. either _ _ t
    (λ t. either _ _ t
    (λ t. either _ _ t
    (at 0xe1 0x9a 0x80 (omega arith) refl)
    (triple_between a b c h i j))
    (at 0xe2 0x80 0xa8 (omega arith) refl))
    (at 0xe2 0x80 0xa9 (omega arith) refl))
    (at 0xe2 0x80 0xaf (omega arith) refl))
    (at 0xe2 0x81 0x9f (omega arith) refl))
    (at 0xe3 0x80 0x80 (omega arith) refl))
    (white_tested (a ∷ b ∷ c ∷ []))

-- no character of another length is white space
pub white_other : (g : List ℕ) → (length g ≡ 1 → ⊥) → (length g ≡ 2 → ⊥) → (length g ≡ 3 → ⊥) → false ≡ is_white g
unfolding white_test
white_other [] x y z = same_test false (is_white []) (λ e. absurd (false≢true e)) (white_tested [])
white_other (a ∷ []) x y z = absurd (x refl)
white_other (a ∷ b ∷ []) x y z = absurd (y refl)
white_other (a ∷ b ∷ c ∷ []) x y z = absurd (z refl)
white_other (a ∷ b ∷ c ∷ d ∷ g) x y z = same_test false _ (λ e. absurd (false≢true e)) (white_tested (a ∷ b ∷ c ∷ d ∷ g))
