-- Laws of the common padding of two texts.
use mathlib.Core.Path.{◌≡◌, refl, ap}
use mathlib.Core.Bool.{Bool, true, false, cond, ◌&&◌}
use mathlib.Core.List.{List, [], ◌∷◌}
use Prim.Native.Nat.{ℕ, ◌≤◌}
use native.Mathlib.Omega.{arith}
use lib.Dec.{eqb}
use lib.ListN.{length, take}
use lib.Seq.{length-take-le}
use Rattle.text.specs.Text.{is_pad, padding}

-- the padding is the first text's beginning
pub padding-part : (a b : List ℕ) → take (length (padding a b)) a ≡ padding a b
unfolding padding
padding-part [] b = refl
padding-part (x ∷ a) [] = refl
padding-part (x ∷ a) (y ∷ b) = go (eqb x y && is_pad x) (padding-part a b)
  where
    go : (t : Bool) → take (length (padding a b)) a ≡ padding a b → take (length (cond t (x ∷ padding a b) [])) (x ∷ a) ≡ cond t (x ∷ padding a b) []
    go true h = ap (λ (l : List ℕ). x ∷ l) h
    go false h = refl

pub padding-upto : (a b : List ℕ) → length (padding a b) ≤ length a
unfolding padding
padding-upto [] b = omega arith
padding-upto (x ∷ a) [] = omega arith
padding-upto (x ∷ a) (y ∷ b) = go (eqb x y && is_pad x) (padding-upto a b)
  where
    go : (t : Bool) → length (padding a b) ≤ length a → length (cond t (x ∷ padding a b) []) ≤ length (x ∷ a)
    go true h = omega arith
    go false h = omega arith

pub common-count : {n : ℕ} (a b : List ℕ) → n ≡ length (padding a b) → n ≡ length (take n a)
common-count a b e = rw (e, length-take-le (length (padding a b)) a (padding-upto a b))

pub common-part : {n : ℕ} (a b : List ℕ) → n ≡ length (padding a b) → take n a ≡ padding a b
common-part a b e = rw (e, padding-part a b)
