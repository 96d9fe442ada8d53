-- Parts of a byte string that are lent.
use mathlib.Core.Path.{◌≡◌, refl}
use mathlib.Core.Bool.{Bool, true, false, ◌&&◌}
use mathlib.Core.List.{List, [], ◌∷◌}
use Prim.Native.Nat.{ℕ, ◌-◌}
use native.Mathlib.Omega.{arith}
use lib.Dec.{eqb}
use lib.ListN.{length, get_or, take, drop, length-drop}
use lib.Seq.{take_all}
use Rattle.text.specs.Basic.{same_bytes}

-- up to the end is all that is left
pub rest-whole : (s : List ℕ) (n : ℕ) → take (length s - n) (drop n s) ≡ drop n s
rest-whole s n = take_all (length s - n) (drop n s) (omega (arith, length-drop n s))

-- the one byte `+`
pub sign_other : (s : List ℕ) → (length s ≡ 1 → ⊥) → false ≡ same_bytes s (43 ∷ [])
unfolding same_bytes
sign_other [] h = refl
sign_other (a ∷ []) h = absurd (h refl)
sign_other (a ∷ b ∷ s) h = go (eqb a 43)
  where
    go : (t : Bool) → false ≡ (t && false)
    go true = refl
    go false = refl

pub sign_one : (s : List ℕ) → length s ≡ 1 → eqb (get_or s 0 0) 43 ≡ same_bytes s (43 ∷ [])
unfolding same_bytes
sign_one [] h = absurd (omega arith)
sign_one (a ∷ []) h = go (eqb a 43)
  where
    go : (t : Bool) → t ≡ (t && true)
    go true = refl
    go false = refl
sign_one (a ∷ b ∷ s) h = absurd (omega arith)
