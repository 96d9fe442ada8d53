-- A rule at every number below a bound, by one test that antt computes.
use mathlib.Core.Path.{◌≡◌, refl}
use mathlib.Core.Bool.{Bool, true, false, not, ◌&&◌, false≢true}
use Prim.Native.Nat.{ℕ, zero, suc, ◌<◌}
use native.Mathlib.Omega.{arith}
use lib.Dec.{eqb}
use borrow.Author.Tests.{eqb-true, eqb-false}
use Rattle.text.proofs.Lists.{and_true}

-- the test passes at each number below n
abbrev pub all_below : ℕ → (ℕ → Bool) → Bool
all_below zero f = true
all_below (suc n) f = f n && all_below n f

-- what the test says of each number
pub below : (n : ℕ) (f : ℕ → Bool) → all_below n f ≡ true → (k : ℕ) → k < n → f k ≡ true
below zero f t k h = absurd (omega arith)
below (suc n) f t k h = go (eqb k n) refl (below n f (and_true (f n) (all_below n f) t).1 k)
  where
    go : (b : Bool) → eqb k n ≡ b → (k < n → f k ≡ true) → f k ≡ true
    go true e r = rw (eqb-true k n e) (and_true (f n) (all_below n f) t).0
    go false e r =
        let d : k ≡ n → ⊥ = eqb-false k n e in
        r (omega arith)

-- two answers are the same
abbrev pub agree : Bool → Bool → Bool
agree true b = b
agree false b = not b

agreed : (a b : Bool) → agree a b ≡ true → a ≡ b
agreed true true h = refl
agreed true false h = absurd (false≢true h)
agreed false true h = absurd (false≢true h)
agreed false false h = refl

-- two tests that agree at each number below n
pub same-below : (n : ℕ) (f g : ℕ → Bool) → all_below n (λ k. agree (f k) (g k)) ≡ true → (k : ℕ) → k < n → f k ≡ g k
same-below n f g t k h = agreed (f k) (g k) (below n (λ k. agree (f k) (g k)) t k h)
