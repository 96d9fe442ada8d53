-- Texts of ASCII only.
use mathlib.Core.Path.{◌≡◌, refl}
use mathlib.Core.Bool.{Bool, true, false, false≢true}
use Rattle.std.specs.Bool.{MatchBool}
use Rattle.std.specs.Str.{IsAscii, IsNotAscii}
use mathlib.Core.List.{List, [], ◌∷◌}
use Prim.Native.Nat.{ℕ, suc, ◌+◌, ◌-◌, ◌<◌, ◌≤◌}
use native.Mathlib.Omega.{arith}
use native.Mathlib.Decide.{dec_lt}
use lib.ListN.{length, get_or, take, drop, length-take, get_or-eq_default}
use lib.Seq.{get_or-take, get_or-drop, drop-drop}
use borrow.Author.Tests.{le-leb}
use Rattle.text.specs.Text.{valid_from, after_byte, follows, valid}
use Rattle.tree.specs.Clean.{Ascii}
use Rattle.tree.proofs.Parts.{rest-whole}

-- what `is_ascii` ensures
pub ascii-told : (s : List ℕ) {b : Bool} → MatchBool b (IsAscii s) (IsNotAscii s) → b ≡ true → Ascii s
ascii-told s {b = true} h e = record { below = h }
ascii-told s {b = false} h e = absurd (false≢true e)

-- a text of ASCII is valid UTF-8
pub ascii-valid : (s : List ℕ) → Ascii s → valid s ≡ true
unfolding valid_from after_byte follows
ascii-valid [] a = refl
ascii-valid (b ∷ s) a = rw (le-leb 0 b (omega arith), le-leb b 127 (omega (arith, a.below 0))) (ascii-valid s (record { below = λ k. a.below (suc k) }))

-- each part of it is ASCII
ascii-part : {s : List ℕ} (m n : ℕ) → Ascii s → Ascii (take n (drop m s))
ascii-part {s} m n a = record { below = λ k. go k (dec_lt k n) }
  where
    go : (k : ℕ) → Dec (k < n) → get_or (take n (drop m s)) k 0 < 128
    go k (yes p) = rw (get_or-take n (drop m s) k 0 p, get_or-drop m s k 0) (a.below (m + k))
    go k (no p) = rw (get_or-eq_default (take n (drop m s)) 0 {n = k} (omega (arith, length-take n (drop m s)))) (omega arith)

-- where all behind b is lent and ASCII, so is each part behind b
pub ascii-behind : (s : List ℕ) (b at n : ℕ) → b ≤ at → Ascii (take (length s - b) (drop b s)) → Ascii (take n (drop at s))
ascii-behind s b at n h a =
    let p : b + (at - b) ≡ at = omega arith in
    let e : drop (at - b) (drop b s) ≡ drop at s = rw p at (drop-drop (at - b) b s) in
    rw e at (ascii-part (at - b) n (rw (rest-whole s b) at a))
