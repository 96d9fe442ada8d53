-- What lists a byte of a text, and how many bytes list a text.
use mathlib.Core.Path.{◌≡◌, refl, sym, ◌∙◌}
use mathlib.Core.Bool.{Bool, true, false, cond}
use mathlib.Core.List.{List, [], ◌∷◌}
use Prim.Native.Nat.{ℕ, ◌+◌, ◌*◌, ◌≤◌}
use native.Mathlib.Omega.{arith}
use lib.ListN.{length, length-append}
use Rattle.std.specs.List.{count_by}
use Rattle.std.proofs.lemmas.List.Sums.{sum_by-cons, count_by-le-length}
use Rattle.items.specs.Lines.{is_escaped, octal, escaped_byte, escaped}

-- what lists a byte, by its test
module _ (b : ℕ) {r : Bool} (i : r ≡ is_escaped b) where
  pub byte-octal : r ≡ true → escaped_byte b ≡ octal b
  unfolding escaped_byte
  byte-octal h = rw (sym i ∙ h)

  pub byte-itself : r ≡ false → escaped_byte b ≡ b ∷ []
  unfolding escaped_byte
  byte-itself h = rw (sym i ∙ h)

-- an escaped byte is listed by three bytes more
byte-length : (b : ℕ) → length (escaped_byte b) ≡ 1 + 3 * cond (is_escaped b) 1 0
unfolding escaped_byte
byte-length b = go (is_escaped b)
  where
    go : (t : Bool) → length (cond t (octal b) (b ∷ [])) ≡ 1 + 3 * cond t 1 0
    go true = refl
    go false = refl

-- a text by three more for each of them
pub escaped-length : (s : List ℕ) → length (escaped s) ≡ length s + 3 * count_by is_escaped s
unfolding escaped
escaped-length [] = refl
escaped-length (b ∷ s) = simp length-append (omega (arith, sum_by-cons (λ x. cond (is_escaped x) 1 0) b s, byte-length b, escaped-length s))

-- at most four bytes list each of its bytes
pub escaped-short : (s : List ℕ) → length (escaped s) ≤ 4 * length s
escaped-short s = omega (arith, escaped-length s, count_by-le-length is_escaped s)
