-- Numbers that fit 32 bits, tested by the largest of them.
use mathlib.Core.Path.{◌≡◌, refl}
use mathlib.Core.Bool.{Bool, true, false, cond, ◌&&◌}
use mathlib.Core.List.{List, [], ◌∷◌}
use Prim.Native.Nat.{ℕ, ◌+◌, ◌≤◌, ◌<◌, ◌^◌, max}
use native.Mathlib.Omega.{arith}
use lib.Dec.{ltb}
use borrow.Author.Tests.{le-ltb, ltb-true}
use Rattle.text.specs.Basic.{all, All, ∅, ◌▹◌}
use Rattle.std.specs.Prelude.{Option, Some, None}
use Rattle.items.specs.declared.Entry.{Entry}
use Rattle.items.specs.Machine.{fit, size_after}
use Rattle.items.proofs.Fits.{fit_true, fits_below}
use Rattle.items.specs.declared.Size.{Size}
use Rattle.items.specs.Entry.{RoomAfter, line_of, grown_by, store_entry, room_for, continued, recorded}

-- the largest of n and the numbers after it
abbrev most : ℕ → List ℕ → ℕ
most n [] = n
most n (m ∷ ms) = max n (most m ms)

below : (n : ℕ) (ns : List ℕ) → most n ns < 2 ^ 32 → All (λ m. m < 2 ^ 32) (n ∷ ns)
below n [] h = h ▹ ∅
below n (m ∷ ms) h = let k : n < 2 ^ 32 = omega arith in k ▹ below m ms (omega arith)

misfits : (n : ℕ) (ns : List ℕ) → 2 ^ 32 ≤ most n ns → fit (n ∷ ns) ≡ false
unfolding fit all
misfits n [] h = rw (le-ltb n (2 ^ 32) h)
misfits n (m ∷ ms) h = go (ltb n (2 ^ 32)) refl (misfits m ms)
  where
    go : (b : Bool) → ltb n (2 ^ 32) ≡ b → (2 ^ 32 ≤ most m ms → fit (m ∷ ms) ≡ false) → (b && fit (m ∷ ms)) ≡ false
    go true e f = f (omega (arith, ltb-true n (2 ^ 32) e))
    go false e f = refl

-- where the operands fit and the largest of the other numbers does, the largest of all fits
under : (f s n : ℕ) → f < 2 ^ 32 → s < 2 ^ 32 → n < 2 ^ 32 → max f (max s n) < 2 ^ 32
under f s n h i k = omega arith

beyond : (f s n : ℕ) → 2 ^ 32 ≤ n → 2 ^ 32 ≤ max f (max s n)
beyond f s n h = omega arith

module _ (e : Entry) (p : Size) where
  abbrev line : ℕ
  line = line_of e p

  -- the numbers after the first operand that must fit
  abbrev others : List ℕ
  others = e.second ∷ (p.records + 1) ∷ (p.texts + e.bytes) ∷ (p.lines + line) ∷ []

  roomy : All (λ m. m < 2 ^ 32) (e.first ∷ others) → (e.second < 2 ^ 32) × RoomAfter e.bytes line p
  roomy (f ▹ s ▹ r ▹ t ▹ l ▹ ∅) = (s, record { records = r; texts = t; lines = l })

  -- where an entry's numbers fit, its second operand does, and there is room for it
  pub room-of : fit (e.first ∷ others) ≡ true → (e.second < 2 ^ 32) × RoomAfter e.bytes line p
  room-of h = roomy (fits_below _ h)

  -- where the second operand does not fit, it cannot be counted
  pub second-full : 2 ^ 32 ≤ e.second → fit (e.first ∷ others) ≡ false
  second-full h = misfits e.first others (omega arith)

  -- the largest number of the size after it
  abbrev grown : ℕ
  grown = max (p.records + 1) (max (p.texts + e.bytes) (p.lines + line))

  pub grown-full : {m : ℕ} → m ≡ grown → 2 ^ 32 ≤ m → None ≡ room_for e p
  unfolding room_for
  grown-full q h = rw (misfits e.first others (beyond e.first e.second grown (rw q at h)))

  pub room-line : {l n : ℕ} → l ≡ line → e.first < 2 ^ 32 → e.second < 2 ^ 32 → n ≡ grown → n < 2 ^ 32 → Some l ≡ room_for e p
  unfolding room_for
  room-line o f s q h = rw (o, fit_true (below e.first others (under e.first e.second grown f s (rw q at h))))

  -- what the room for an entry says
  module _ (r : Option ℕ) (is : r ≡ room_for e p) where
    pub nowhere : {o : Option Size} (rs : List ℕ) → o ≡ Some p → r ≡ None → (None ≡ continued e o) × (rs ≡ recorded e o rs)
    unfolding room_for continued recorded
    nowhere rs known h = rw known (go (fit (e.first ∷ others)) is)
      where
        go : (t : Bool) → r ≡ cond t (Some line) None → (None ≡ cond t (Some (grown_by e p)) None) × (rs ≡ cond t (store_entry e p rs) rs)
        go true k = let z : ◌≡◌ {A = ℕ} 0 1 = cc in absurd (omega arith)
        go false k = (refl, refl)

    module _ (l : ℕ) (h : r ≡ Some l) where
      fitted : (l ≡ line) × (fit (e.first ∷ others) ≡ true)
      unfolding room_for
      fitted = go (fit (e.first ∷ others)) refl is
        where
          go : (t : Bool) → fit (e.first ∷ others) ≡ t → r ≡ cond t (Some line) None → (l ≡ line) × (fit (e.first ∷ others) ≡ true)
          go true q k = (cc, q)
          go false q k = let z : ◌≡◌ {A = ℕ} 0 1 = cc in absurd (omega arith)

      pub has-room : RoomAfter e.bytes l p
      has-room = rw fitted.0 (room-of fitted.1).1

      pub goes_on : {o : Option Size} {d : Size} (rs : List ℕ) {rs' : List ℕ} → o ≡ Some p → d ≡ size_after e.bytes l p → rs' ≡ store_entry e p rs → (Some d ≡ continued e o) × (rs' ≡ recorded e o rs)
      unfolding continued recorded
      goes_on rs known g k = rw (known, g, k, fitted.0, fitted.1) (refl, refl)
