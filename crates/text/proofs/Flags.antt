-- What a byte is: its lead length, read off its class number below the two flags, and the flags, found by comparing.
use mathlib.Core.Path.{◌≡◌, refl}
use mathlib.Core.Bool.{Bool, true, false, cond, ◌||◌}
use mathlib.Core.List.{[], ◌∷◌}
use Prim.Native.Nat.{ℕ, ◌+◌, ◌%◌, ◌<◌}
use native.Mathlib.Omega.{arith}
use lib.Dec.{eqb, ltb}
use borrow.Author.Tests.{ltb-true}
use Rattle.std.specs.Char.{is_ascii_whitespace}
use Rattle.text.specs.Basic.{any, same_bytes}
use Rattle.text.specs.Text.{class_of, lead_length, follows, is_pad, is_white, white_space, utf8}
use Rattle.text.proofs.Below.{below, same-below}

-- a class number with two flags
abbrev packed : ℕ → Bool → Bool → ℕ
packed l p w = l + (cond p 8 0 + cond w 16 0)

lead-packed : (l : ℕ) (p w : Bool) → l < 8 → packed l p w % 8 ≡ l
lead-packed l true true h = omega arith
lead-packed l true false h = omega arith
lead-packed l false true h = omega arith
lead-packed l false false h = omega arith

lead-small : (b : ℕ) → b < 256 → lead_length b < 8
unfolding lead_length follows
lead-small b h = ltb-true _ 8 (below 256 (λ k. ltb (lead_length k) 8) refl b h)

pub class-lead : (x b : ℕ) → b < 256 → x ≡ class_of b → x % 8 ≡ lead_length b
unfolding class_of
class-lead x b h e = rw e (lead-packed (lead_length b) (is_pad b) (is_white (b ∷ [])) (lead-small b h))

-- the tests that stand for a flag, at every byte

pub pad_tested : (b : ℕ) → b < 256 → (is_ascii_whitespace b || eqb b 42) ≡ is_pad b
unfolding is_pad any
pad_tested = same-below 256 (λ k. is_ascii_whitespace k || eqb k 42) is_pad refl

pub white_tested : (b : ℕ) → b < 256 → (is_ascii_whitespace b || eqb b 11) ≡ is_white (b ∷ [])
unfolding is_white white_space utf8 any same_bytes
white_tested = same-below 256 (λ k. is_ascii_whitespace k || eqb k 11) (λ k. is_white (k ∷ [])) refl
