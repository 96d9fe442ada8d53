-- An escaped byte, and loops that write.
use mathlib.Core.Path.{◌≡◌, refl, ap, ◌∙◌}
use mathlib.Core.List.{List, [], ◌∷◌, ◌++◌}
use Prim.Native.Nat.{ℕ, suc, ◌+◌, ◌-◌, ◌/◌, ◌%◌, ◌<◌, ◌≤◌}
use native.Mathlib.Omega.{arith}
use native.Mathlib.Numerals.{add-one}
use lib.ListN.{length, get_or, drop, length-append, drop_of_length-le}
use lib.Seq.{drop-cons}
use Rattle.items.specs.Lines.{octal, escaped_byte, escaped}
use Rattle.listing.specs.Writes.{Room, Fills}
use Rattle.listing.specs.declared.Sheet.{Sheet}
use Rattle.listing.specs.Shown.{line_at, lines_from}
use Rattle.listing.proofs.Writes.{blank, ◌▸◌, by, room-first, room_as}

-- What a loop keeps that writes us, where vs are still to be written: whoever writes them has written the whole.
pub record Writing (us vs : List ℕ) (o a : Sheet) : Type 0 where
  pub rest : {b : Sheet} → Fills vs a b → Fills us o b
  pub left : a.at + length vs ≡ o.at + length us

pub writing_none : (us : List ℕ) (o : Sheet) → Writing us us o o
writing_none us o = record { rest = λ h. h; left = refl }

pub writing_more : {us vs ws zs : List ℕ} {o a b : Sheet} → Writing us vs o a → vs ≡ ws ++ zs → Fills ws a b → Writing us zs o b
writing_more {us} {vs} {ws} {zs} g e h = record {
  rest = λ k. g.rest (by e (h ▸ k));
  left = omega (arith, g.left, h.written.counted, ap length e ∙ length-append ws zs);
}

pub writing_all : {us vs : List ℕ} {o a : Sheet} → Writing us vs o a → vs ≡ [] → Fills us o a
writing_all g e = g.rest (by e blank)

-- what is still to be written has room
pub room-left : {us vs : List ℕ} {o a : Sheet} → Writing us vs o a → Room us o.at → Room vs a.at
room-left g r = record { fits = omega (arith, g.left, r.fits) }

-- ---- the bytes of a text

escaped-next : (s : List ℕ) (i : ℕ) → i < length s → escaped (drop i s) ≡ escaped_byte (get_or s i 0) ++ escaped (drop (i + 1) s)
unfolding escaped
escaped-next s i h = rw (drop-cons s i 0 h, add-one i)

-- a byte by its octal digits
pub octal_by : (b : ℕ) {x y z : ℕ} → x ≡ 48 + b / 64 → y ≡ 48 + b / 8 % 8 → z ≡ 48 + b % 8 → octal b ≡ 92 ∷ x ∷ y ∷ z ∷ []
octal_by b h i j = rw (h, i, j)

module _ (s : List ℕ) where
  -- What a loop keeps that writes what lists s, where it has come to byte i.
  abbrev pub Escaping : Sheet → Sheet → ℕ → Type 0
  Escaping o a i = Writing (escaped s) (escaped (drop i s)) o a

  pub escaping_more : {o a b : Sheet} (i : ℕ) → Escaping o a i → i < length s → Fills (escaped_byte (get_or s i 0)) a b → Escaping o b (i + 1)
  escaping_more i g h k = writing_more g (escaped-next s i h) k

  pub escaping-all : {o a : Sheet} (i : ℕ) → Escaping o a i → length s ≤ i → Fills (escaped s) o a
  unfolding escaped
  escaping-all i g h = writing_all g (rw (drop_of_length-le s h))

  pub escaping-room : {o a : Sheet} (i : ℕ) → Escaping o a i → i < length s → Room (escaped s) o.at → Room (escaped_byte (get_or s i 0)) a.at
  escaping-room i g h r = room-first _ (room_as (escaped-next s i h) (room-left g r))

-- ---- the lines of records

lines_next : (rs ts : List ℕ) (n i : ℕ) → i < n → lines_from rs ts i (n - i) ≡ line_at rs ts i ++ lines_from rs ts (i + 1) (n - (i + 1))
unfolding lines_from
lines_next rs ts n i h = let e : n - i ≡ suc (n - (i + 1)) = omega arith in rw (e, add-one i)

module _ (rs ts : List ℕ) (n : ℕ) where
  -- What a loop keeps that writes the lines of n records, where it has come to record i.
  abbrev pub Lining : Sheet → Sheet → ℕ → Type 0
  Lining o a i = Writing (lines_from rs ts 0 n) (lines_from rs ts i (n - i)) o a

  pub lines_more : {o a b : Sheet} (i : ℕ) → Lining o a i → i < n → Fills (line_at rs ts i) a b → Lining o b (i + 1)
  lines_more i g h k = writing_more g (lines_next rs ts n i h) k

  pub lines-all : {o a : Sheet} (i : ℕ) → Lining o a i → n ≤ i → Fills (lines_from rs ts 0 n) o a
  unfolding lines_from
  lines-all i g h = let e : n - i ≡ 0 = omega arith in writing_all g (rw e)

  pub lines-room : {o a : Sheet} (i : ℕ) → Lining o a i → i < n → Room (lines_from rs ts 0 n) o.at → Room (line_at rs ts i) a.at
  lines-room i g h r = room-first _ (room_as (lines_next rs ts n i h) (room-left g r))
