-- Decimal digits: the last one behind those of the tenth part.
use mathlib.Core.Path.{◌≡◌, refl, sym, ap, ◌∙◌}
use mathlib.Core.Bool.{Bool, true, false, cond}
use mathlib.Core.List.{List, [], ◌∷◌, ◌++◌}
use Prim.Native.Nat.{ℕ, zero, suc, ◌+◌, ◌*◌, ◌/◌, ◌%◌, ◌^◌, ◌≤◌, ◌<◌}
use native.Mathlib.Omega.{arith}
use native.Mathlib.Numerals.{add-one}
use lib.Dec.{ltb}
use lib.ListN.{length, length-append}
use borrow.Author.Tests.{lt-ltb, le-ltb, ltb-false}
use Rattle.items.specs.Lines.{digits, decimal}

-- how many digits are allowed for does not matter, where they are enough
digits-enough : (d e n : ℕ) → n ≤ d → n ≤ e → digits d n ≡ digits e n
unfolding digits
digits-enough zero zero n h k = refl
digits-enough zero (suc e) n h k = let z : n ≡ 0 = omega arith in rw z
digits-enough (suc d) zero n h k = let z : n ≡ 0 = omega arith in rw z
digits-enough (suc d) (suc e) n h k = go (ltb n 10) refl (digits-enough d e (n / 10))
  where
    go : (b : Bool) → ltb n 10 ≡ b → (n / 10 ≤ d → n / 10 ≤ e → digits d (n / 10) ≡ digits e (n / 10))
        → cond b ((48 + n) ∷ []) (digits d (n / 10) ++ ((48 + n % 10) ∷ [])) ≡ cond b ((48 + n) ∷ []) (digits e (n / 10) ++ ((48 + n % 10) ∷ []))
    go true t f = refl
    go false t f =
        let l = ltb-false n 10 t in
        ap (λ (l : List ℕ). l ++ ((48 + n % 10) ∷ [])) (f (omega arith) (omega arith))

-- a number below ten is its digit
pub one-digit : (n d : ℕ) → n < 10 → d ≡ 48 + n → decimal n ≡ d ∷ []
unfolding decimal digits
one-digit zero d h e = rw e
one-digit (suc m) d h e = rw (lt-ltb (suc m) 10 h, e)

-- any other is its tenth part and then the last digit
pub last-digit : (n d : ℕ) → 10 ≤ n → d ≡ 48 + n % 10 → decimal n ≡ decimal (n / 10) ++ (d ∷ [])
unfolding decimal digits
last-digit zero d h e = absurd (omega arith)
last-digit (suc m) d h e = rw (le-ltb (suc m) 10 h, digits-enough m (suc m / 10) (suc m / 10) (omega arith) (omega arith), e)

digits-short : (k d n : ℕ) → n < 10 ^ suc k → length (digits d n) ≤ suc k
unfolding digits
digits-short k zero n h = omega arith
digits-short zero (suc d) n h = let s : n < 10 = omega arith in rw (lt-ltb n 10 s) (omega arith)
digits-short (suc k) (suc d) n h = go (ltb n 10) (digits-short k d (n / 10) (omega arith))
  where
    go : (b : Bool) → length (digits d (n / 10)) ≤ suc k → length (cond b ((48 + n) ∷ []) (digits d (n / 10) ++ ((48 + n % 10) ∷ []))) ≤ suc (suc k)
    go true f = omega arith
    go false f = omega (arith, length-append (digits d (n / 10)) ((48 + n % 10) ∷ []))

-- a number of 32 bits has at most ten digits
pub decimal-short : (n : ℕ) → n < 2 ^ 32 → length (decimal n) ≤ 10
unfolding decimal
decimal-short n h = digits-short 9 n n (omega arith)

-- one of 64 bits at most twenty
pub decimal-wide : (n : ℕ) → n < 2 ^ 64 → length (decimal n) ≤ 20
unfolding decimal
decimal-wide n h = digits-short 19 n n (omega arith)

pub one-long : (n : ℕ) → n < 10 → length (decimal n) ≡ 1
one-long n h = ap length (one-digit n (48 + n) h refl)

-- a digit less in the tenth part
pub tenth_shorter : (n : ℕ) → 10 ≤ n → length (decimal n) ≡ suc (length (decimal (n / 10)))
tenth_shorter n h = ap length (last-digit n (48 + n % 10) h refl) ∙ length-append (decimal (n / 10)) ((48 + n % 10) ∷ []) ∙ add-one _

-- so there is a digit for each power of ten up to the number
pub digits-by_power : (k n : ℕ) → 10 ^ k ≤ n → n < 10 * 10 ^ k → k + 1 ≡ length (decimal n)
digits-by_power zero n h l = sym (one-long n (omega arith))
digits-by_power (suc k) n h l = omega (arith, tenth_shorter n (omega arith), digits-by_power k (n / 10) (omega arith) (omega arith))
