-- A table that is given by a rule. A constant table that computes to `tabled n f 0` has the rule f at every place.
use mathlib.Core.Path.{◌≡◌}
use mathlib.Core.List.{List, [], ◌∷◌}
use Prim.Native.Nat.{ℕ, zero, suc, ◌+◌, ◌<◌}
use native.Mathlib.Nat.{add-zero, zero-add}
use native.Mathlib.Omega.{arith}
use lib.ListN.{get_or}

-- f of i and of the numbers after it, n in all
abbrev pub tabled : {A : Type 0} → ℕ → (ℕ → A) → ℕ → List A
tabled zero f i = []
tabled (suc n) f i = f i ∷ tabled n f (suc i)

module _ {A : Type 0} (d : A) where
  tabled-from : (n : ℕ) (f : ℕ → A) (i k : ℕ) → k < n → get_or (tabled n f i) k d ≡ f (i + k)
  tabled-from zero f i k h = absurd (omega arith)
  tabled-from (suc n) f i zero h = rw add-zero
  tabled-from (suc n) f i (suc k) h =
      let e : suc i + k ≡ i + suc k = omega arith in
      rw e at (tabled-from n f (suc i) k (omega arith))

  -- what stands at k is f of k
  pub tabled-at : (n : ℕ) (f : ℕ → A) (k : ℕ) → k < n → get_or (tabled n f 0) k d ≡ f k
  tabled-at n f k h = rw zero-add at (tabled-from n f 0 k h)
