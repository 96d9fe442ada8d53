-- Laws of sums, of counts, of tests and of lists whose members all have a property.
use mathlib.Core.Path.{◌≡◌, refl}
use mathlib.Core.Bool.{Bool, true, false, cond, ◌&&◌, false≢true}
use mathlib.Core.List.{List, [], ◌∷◌, ◌++◌}
use Prim.Native.Nat.{ℕ, suc, ◌+◌}
use native.Mathlib.Omega.{arith}
use lib.Dec.{eqb}
use Rattle.text.specs.Basic.{sum, count, All, ∅, ◌▹◌}

pub sum-append : {A : Type 0} (f : A → ℕ) (xs ys : List A) → sum f (xs ++ ys) ≡ sum f xs + sum f ys
unfolding sum
sum-append f [] ys = omega arith
sum-append f (x ∷ xs) ys = omega (arith, sum-append f xs ys)

pub count-append : (b : ℕ) (xs ys : List ℕ) → count b (xs ++ ys) ≡ count b xs + count b ys
unfolding count
count-append b [] ys = omega arith
count-append b (x ∷ xs) ys = go (eqb x b) (count-append b xs ys)
  where
    go : (t : Bool) → count b (xs ++ ys) ≡ count b xs + count b ys → cond t (suc (count b (xs ++ ys))) (count b (xs ++ ys)) ≡ cond t (suc (count b xs)) (count b xs) + count b ys
    go true h = omega (arith, h)
    go false h = h

pub and_true : (a b : Bool) → (a && b) ≡ true → (a ≡ true) × (b ≡ true)
and_true true b h = (refl, h)
and_true false b h = (h, absurd (false≢true h))

pub all_append : {A : Type 0} {P : A → Type 0} {xs ys : List A} → All P xs → All P ys → All P (xs ++ ys)
all_append ∅ q = q
all_append (h ▹ p) q = h ▹ all_append p q
