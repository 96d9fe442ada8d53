-- Promises of functions that write bytes, put together.
use mathlib.Core.Path.{◌≡◌, refl, sym, ap, ◌∙◌}
use mathlib.Core.List.{List, [], ◌∷◌, ◌++◌}
use Prim.Native.Nat.{ℕ, ◌+◌}
use native.Mathlib.Omega.{arith}
use native.Mathlib.Nat.{add-zero}
use lib.ListN.{length, set, length-append}
use lib.Seq.{length-sets}
use Rattle.items.specs.Machine.{store}
use Rattle.items.proofs.Fits.{store-append}
use Rattle.listing.specs.declared.Sheet.{Sheet}
use Rattle.listing.specs.Writes.{Page, page, Writes, Room, held, Fills}

-- a buffer keeps its length
pub kept : {bs : List ℕ} {o a : Page} → Writes bs o a → length a.buffer ≡ length o.buffer
unfolding store
kept {bs} {o} h = ap length h.stored ∙ length-sets o.buffer o.place bs

-- one byte that is stored at its place
pub one_byte : {b b' : List ℕ} {n x : ℕ} → b' ≡ set b n x → Writes (x ∷ []) (page b n) (page b' (n + 1))
unfolding store
one_byte e = record { counted = refl; stored = e }

-- some bytes, and then others
pub writes_both : {us vs : List ℕ} {o a b : Page} → Writes us o a → Writes vs a b → Writes (us ++ vs) o b
writes_both {us} {vs} {o} h k = record {
  counted = rw (length-append us vs) (omega (arith, h.counted, k.counted));
  stored = k.stored ∙ rw (h.stored, h.counted) (store-append us vs o.buffer o.place);
}

-- ---- sheets

-- nothing written
pub blank : {o : Sheet} → Fills [] o o
unfolding store
blank = record { written = record { counted = sym (add-zero _); stored = refl }; lent = refl }

infixr 40 ◌▸◌
-- some bytes, and then others
pub ◌▸◌ : {us vs : List ℕ} {o a b : Sheet} → Fills us o a → Fills vs a b → Fills (us ++ vs) o b
h ▸ k = record { written = writes_both h.written k.written; lent = k.lent ∙ h.lent }

-- the same bytes by another name
pub by : {us vs : List ℕ} {o a : Sheet} → us ≡ vs → Fills vs o a → Fills us o a
by e h = rw e h

-- what a lent buffer ends as that a sheet held
pub written_in : {bs b : List ℕ} {o a : Sheet} → Fills bs o a → b ≡ a.out.now → Writes bs (held o) (page b a.at)
written_in h e = rw e h.written

-- ---- room

-- for the first bytes
pub room-first : {us : List ℕ} (vs : List ℕ) {n : ℕ} → Room (us ++ vs) n → Room us n
room-first {us} vs r = record { fits = omega (arith, r.fits, length-append us vs) }

-- for those behind them, once they are written
pub room-behind : {us vs : List ℕ} {o a : Page} → Room (us ++ vs) o.place → Writes us o a → Room vs a.place
room-behind {us} {vs} r h = record { fits = omega (arith, r.fits, h.counted, length-append us vs) }

infixl 50 ◌⟫◌
-- the same on a sheet
pub ◌⟫◌ : {us vs : List ℕ} {o a : Sheet} → Room (us ++ vs) o.at → Fills us o a → Room vs a.at
r ⟫ h = room-behind r h.written

-- the same bytes by another name
pub room_as : {us vs : List ℕ} {n : ℕ} → us ≡ vs → Room us n → Room vs n
room_as e r = rw e at r
