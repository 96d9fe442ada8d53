-- What is owed before and after a byte, as the code keeps it.
use Rattle.std.specs.Prelude as prelude
use mathlib.Core.Path.{◌≡◌, refl, ap, ◌∙◌, sym}
use mathlib.Core.Bool.{Bool, true, false, cond, ◌&&◌, false≢true}
use mathlib.Core.Option.{Option, none, some}
use mathlib.Core.List.{List, [], ◌∷◌}
use Prim.Native.Nat.{ℕ, zero, suc, ◌+◌, ◌-◌, ◌<◌}
use native.Mathlib.Omega.{arith}
use native.Mathlib.Numerals.{add-one}
use lib.Dec.{eqb, ltb}
use lib.ListN.{length, drop}
use borrow.Author.Tests.{ne_eqb, eqb-true, le-leb, ltb-true}
use Rattle.std.specs.List.{prefix_len}
use Rattle.text.specs.Basic.{within}
use Rattle.text.specs.Text.{Range, follows, lead_length, after_byte, nothing_owed, valid_from, valid}
use Rattle.text.specs.Owed.{lowest_tail, highest_tail, tails, tails_from, owed_of}
use Rattle.text.specs.declared.utf8.Tails.{Tails}
use Rattle.text.proofs.Below.{below}
use Rattle.text.proofs.Lists.{and_true}

-- two lists of ranges are equal
same_ranges : List Range → List Range → Bool
same_ranges [] [] = true
same_ranges [] (r ∷ rs) = false
same_ranges (q ∷ qs) [] = false
same_ranges (q ∷ qs) (r ∷ rs) = eqb q.lo r.lo && (eqb q.hi r.hi && same_ranges qs rs)

ranges_same : (qs rs : List Range) → same_ranges qs rs ≡ true → qs ≡ rs
unfolding same_ranges
ranges_same [] [] h = refl
ranges_same [] (r ∷ rs) h = absurd (false≢true h)
ranges_same (q ∷ qs) [] h = absurd (false≢true h)
ranges_same (q ∷ qs) (r ∷ rs) h =
    let (a, t) = and_true (eqb q.lo r.lo) (eqb q.hi r.hi && same_ranges qs rs) h in
    let (b, e) = and_true (eqb q.hi r.hi) (same_ranges qs rs) t in
    rw (← eqb-true q.lo r.lo a, ← eqb-true q.hi r.hi b, ranges_same qs rs e)

-- two lists of ranges, each there or not, are equal
same_owed : Option (List Range) → Option (List Range) → Bool
same_owed none none = true
same_owed none (some rs) = false
same_owed (some qs) none = false
same_owed (some qs) (some rs) = same_ranges qs rs

owed_same : (o p : Option (List Range)) → same_owed o p ≡ true → o ≡ p
unfolding same_owed
owed_same none none h = refl
owed_same none (some rs) h = absurd (false≢true h)
owed_same (some qs) none h = absurd (false≢true h)
owed_same (some qs) (some rs) h = ap some (ranges_same qs rs h)

-- what follows a lead byte, by its length and the range of its first tail
led : ℕ → ℕ → ℕ → Option (List Range)
led zero lo hi = none
led (suc n) lo hi = some (tails_from n lo hi)

-- the lead length and the first tail's range say all that RFC 3629 asks, at every byte
led_is : (b : ℕ) → b < 256 → led (lead_length b) (lowest_tail b) (highest_tail b) ≡ follows b
unfolding led same_owed same_ranges lead_length follows lowest_tail highest_tail tails tails_from
led_is b h = owed_same _ _ (below 256 (λ k. same_owed (led (lead_length k) (lowest_tail k) (highest_tail k)) (follows k)) refl b h)

-- an ASCII byte is a character by itself
pub led-ascii : (b : ℕ) → b < 0x80 → some [] ≡ follows b
unfolding follows
led-ascii b h = rw (le-leb 0 b (omega arith), le-leb b 0x7f (omega arith))

pub led_wrong : (b n : ℕ) → b < 256 → n ≡ lead_length b → n ≡ 0 → owed_of prelude.None ≡ follows b
unfolding led owed_of
led_wrong b n h e z = ap (λ (m : ℕ). led m (lowest_tail b) (highest_tail b)) (sym z ∙ e) ∙ led_is b h

pub led-tails : (b : ℕ) (t : Tails) → b < 256 → t.more + 1 ≡ lead_length b → t.low ≡ lowest_tail b → t.high ≡ highest_tail b → owed_of (prelude.Some t) ≡ follows b
unfolding led owed_of
led-tails b t h e l g = rw (l, g) (ap (λ (m : ℕ). led m (lowest_tail b) (highest_tail b)) (rw add-one at e) ∙ led_is b h)

-- nothing is owed, and a character begins
pub after_none : (t : Tails) (o : prelude.Option Tails) (b : ℕ) → t.more ≡ 0 → owed_of o ≡ follows b → owed_of o ≡ after_byte (owed_of (prelude.Some t)) b
unfolding owed_of after_byte tails_from
after_none t o b z f = rw z f

tails-after : (n : ℕ) → tails_from n 0x80 0xbf ≡ tails n
unfolding tails_from tails
tails-after zero = refl
tails-after (suc n) = refl

-- something is owed, and the byte is a tail of the wanted range or not
after_more : (n lo hi b : ℕ) → (n ≡ 0 → ⊥) → after_byte (some (tails_from n lo hi)) b ≡ cond (within lo hi b) (some (tails_from (n - 1) 0x80 0xbf)) none
unfolding after_byte tails_from
after_more zero lo hi b z = absurd (z refl)
after_more (suc n) lo hi b z =
    let p : suc n - 1 ≡ n = omega arith in
    rw (p, tails-after n)

pub after_tail : (t r : Tails) (b : ℕ) → (t.more ≡ 0 → ⊥) → within t.low t.high b ≡ true → r ≡ record { more = t.more - 1; low = 0x80; high = 0xbf } → owed_of (prelude.Some r) ≡ after_byte (owed_of (prelude.Some t)) b
unfolding owed_of
after_tail t r b z w e = rw (after_more t.more t.low t.high b z, w, e)

pub after_wrong : (t : Tails) (b : ℕ) → (t.more ≡ 0 → ⊥) → within t.low t.high b ≡ false → owed_of prelude.None ≡ after_byte (owed_of (prelude.Some t)) b
unfolding owed_of
after_wrong t b z w = rw (after_more t.more t.low t.high b z, w)

-- ASCII

abbrev pub is_ascii : ℕ → Bool
is_ascii b = ltb b 0x80

-- what stands behind the ASCII bytes at the start is as valid as the whole
pub behind-ascii : (s : List ℕ) → valid (drop (prefix_len is_ascii s) s) ≡ valid s
unfolding valid_from after_byte
behind-ascii [] = refl
behind-ascii (b ∷ s) = go (ltb b 0x80) refl (behind-ascii s)
  where
    go : (t : Bool) → ltb b 0x80 ≡ t → valid (drop (prefix_len is_ascii s) s) ≡ valid s → valid (drop (cond t (1 + prefix_len is_ascii s) 0) (b ∷ s)) ≡ valid (b ∷ s)
    go true e h =
        let n : 1 + prefix_len is_ascii s ≡ suc (prefix_len is_ascii s) = omega arith in
        rw (n, ← (led-ascii b (ltb-true b 0x80 e))) h
    go false e h = refl

-- THE WALK

-- The text is as valid as its rest is after what is owed.
pub record Validating (s : List ℕ) (t : Tails) (rest : List ℕ) : Type 0 where
  pub same : valid_from (owed_of (prelude.Some t)) rest ≡ valid s

-- nothing is owed
pub settled : (t : Tails) → t.more ≡ 0 → owed_of (prelude.Some t) ≡ some []
unfolding owed_of tails_from
settled t z = rw z

pub validating_none : {s rest : List ℕ} (t : Tails) → t.more ≡ 0 → valid rest ≡ valid s → Validating s t rest
validating_none t z h = record { same = rw (settled t z) h }

wrong-stays : (s : List ℕ) → valid_from none s ≡ false
unfolding valid_from after_byte
wrong-stays [] = refl
wrong-stays (b ∷ s) = wrong-stays s

module _ {s rest behind : List ℕ} {t : Tails} {b : ℕ} (v : Validating s t rest) (e : rest ≡ b ∷ behind) (o : prelude.Option Tails) (k : owed_of o ≡ after_byte (owed_of (prelude.Some t)) b) where
  pub validating_wrong : o ≡ prelude.None → false ≡ valid s
  unfolding valid_from owed_of
  validating_wrong n = rw (e, ← k, n, wrong-stays behind) at v.same

  pub validating_more : (r : Tails) → o ≡ prelude.Some r → Validating s r behind
  unfolding valid_from
  validating_more r n = record { same = rw (e, ← k, n) at v.same }

pub validating_on : {s rest behind : List ℕ} {t : Tails} → Validating s t rest → t.more ≡ 0 → valid behind ≡ valid rest → Validating s t behind
validating_on {t = t} v z h = record { same = rw (settled t z) (h ∙ (rw (settled t z) at v.same)) }

nothing-more : (n lo hi : ℕ) → eqb n 0 ≡ nothing_owed (some (tails_from n lo hi))
unfolding tails_from
nothing-more zero lo hi = refl
nothing-more (suc n) lo hi = ne_eqb (suc n) 0 (omega arith)

pub validating_all : {s rest : List ℕ} {t : Tails} → Validating s t rest → length rest ≡ 0 → eqb t.more 0 ≡ valid s
unfolding valid_from owed_of
validating_all {rest = []} {t} v h = nothing-more t.more t.low t.high ∙ v.same
validating_all {rest = b ∷ rest} v h = absurd (omega arith)
