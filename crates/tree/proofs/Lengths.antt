-- Test 1, asked of what is left of the image at the places of N, of B and of the texts.
use mathlib.Core.Path.{◌≡◌, refl}
use mathlib.Core.List.{List}
use mathlib.Core.Bool.{Bool, true, false, not, ◌||◌}
use Prim.Native.Nat.{ℕ, ◌+◌, ◌*◌, ◌-◌, ◌≤◌}
use native.Mathlib.Omega.{arith}
use lib.Dec.{ltb, eqb}
use lib.ListN.{length}
use borrow.Author.Tests.{ltb-true, ltb-false, lt-ltb, le-ltb, eqb-true, eqb-false, eq-eqb, ne_eqb}
use Rattle.tree.specs.Tree.{count_n, count_b}
use Rattle.tree.specs.Refusal.{wrong_length}

left_ltb : (l at : ℕ) → ltb (l - at) 4 ≡ ltb l (at + 4)
left_ltb l at = go (ltb l (at + 4)) refl
  where
    go : (t : Bool) → ltb l (at + 4) ≡ t → ltb (l - at) 4 ≡ t
    go true e = lt-ltb (l - at) 4 (omega (arith, ltb-true l (at + 4) e))
    go false e = le-ltb (l - at) 4 (omega (arith, ltb-false l (at + 4) e))

left_eqb : (l at b : ℕ) → at ≤ l → eqb (l - at) b ≡ eqb l (at + b)
left_eqb l at b h = go (eqb l (at + b)) refl
  where
    go : (t : Bool) → eqb l (at + b) ≡ t → eqb (l - at) b ≡ t
    go true e = eq-eqb (l - at) b (omega (arith, eqb-true l (at + b) e))
    go false e = ne_eqb (l - at) b (λ q. eqb-false l (at + b) e (omega (arith, q)))

left_wrong : (l n b : ℕ) → (ltb (l - 0) 4 || (ltb (l - (4 + 8 * n)) 4 || not (eqb (l - (4 + 8 * n + 4)) b))) ≡ (ltb l 4 || (ltb l (8 + 8 * n) || not (eqb l (8 + 8 * n + b))))
left_wrong l n b =
    let p : 4 + 8 * n + 4 ≡ 8 + 8 * n = omega arith in
    rw (left_ltb l 0, left_ltb l (4 + 8 * n), p) (go (ltb l (8 + 8 * n)) refl)
  where
    go : (t : Bool) → ltb l (8 + 8 * n) ≡ t → (ltb l 4 || (t || not (eqb (l - (8 + 8 * n)) b))) ≡ (ltb l 4 || (t || not (eqb l (8 + 8 * n + b))))
    go true e = refl
    go false e = rw (left_eqb l (8 + 8 * n) b (ltb-false l (8 + 8 * n) e))

pub wrong_as : (image : List ℕ) {n e b x y z : ℕ} → n ≡ count_n image → e ≡ 4 + 8 * n → b ≡ count_b image → x ≡ length image - 0 → y ≡ length image - e → z ≡ length image - (e + 4) → (ltb x 4 || (ltb y 4 || not (eqb z b))) ≡ wrong_length image
unfolding wrong_length
wrong_as image p q r u v w = rw (u, v, w, q, p, r) (left_wrong (length image) (count_n image) (count_b image))
