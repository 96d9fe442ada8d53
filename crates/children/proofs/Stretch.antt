-- Jumps from sibling to sibling.
use mathlib.Core.Path.{◌≡◌, refl}
use mathlib.Core.Bool.{Bool, true, false, ◌&&◌, ◌||◌}
use mathlib.Core.List.{List}
use Prim.Native.Nat.{ℕ, ◌<◌, ◌≤◌}
use native.Mathlib.Omega.{arith}
use native.Mathlib.Decide.{dec_lt}
use lib.Dec.{leb}
use borrow.Author.Tests.{le-leb, lt-leb, leb-true, leb-false}
use Rattle.tree.specs.Tree.{Part}
use Rattle.tree.specs.Class.{kinds, one_of}
use Rattle.tree.specs.Index.{end_at, Table, Region}
use Rattle.children.specs.Reading.{is_note}
use Rattle.children.specs.Stretch.{notes, Jumps, Stretch, here, jump}

-- they are what a reading notes
pub note-kinds : (x : Part) → is_note x ≡ one_of notes x.kind
unfolding one_of kinds
note-kinds x = go (leb x.kind 69) refl (leb 64 x.kind) refl
  where
    go : (u : Bool) → leb x.kind 69 ≡ u → (l : Bool) → leb 64 x.kind ≡ l
        → (((l && u) && true) || ((leb 70 x.kind && leb x.kind 72) && true)) ≡ ((l && leb x.kind 72) && true)
    go true p true q = rw (le-leb x.kind 72 (omega (arith, leb-true x.kind 69 p)))
    go true p false q = rw (lt-leb 70 x.kind (omega (arith, leb-true x.kind 69 p)))
    go false p true q = rw (le-leb 70 x.kind (omega (arith, leb-false x.kind 69 p)))
    go false p false q = absurd (omega (arith, leb-false x.kind 69 p, leb-false 64 x.kind q))

-- jumps from where others led
pub jumps-both : {index : List ℕ} {n a j e : ℕ} → Jumps index n a j → Jumps index n j e → Jumps index n a e
jumps-both here k = k
jumps-both (jump h l) k = jump h (jumps-both l k)

-- jumps among more elements
jumps_wider : {index : List ℕ} {n m a j : ℕ} → n ≤ m → Jumps index n a j → Jumps index m a j
jumps_wider h here = here
jumps_wider h (jump {a} g k) = jump {a = a} (omega arith) (jumps_wider h k)

module _ {index image : List ℕ} {n : ℕ} (t : Table image index n) where
  -- jumps go on
  pub jumps-le : {a j : ℕ} → Jumps index n a j → a ≤ j
  jumps-le here = omega arith
  jumps-le (jump {a} h k) = omega (arith, t.past a h, jumps-le k)

  -- one jump more
  pub jumps-next : {a j : ℕ} → Jumps index n a j → j < n → Jumps index n a (end_at index j)
  jumps-next here g = jump g here
  jumps-next (jump h k) g = jump h (jumps-next k g)

  -- of two that are reached, the further one is reached from behind the nearer
  pub jumps-behind : {a j e : ℕ} → Jumps index n a j → Jumps index n a e → j < e → Jumps index n (end_at index j) e
  jumps-behind here here h = absurd (omega arith)
  jumps-behind here (jump g k) h = k
  jumps-behind (jump {a} g k) here h = absurd (omega (arith, t.past a g, jumps-le k))
  jumps-behind (jump g k) (jump g' k') h = jumps-behind k k' h

-- a stretch of nothing
pub stretch_none : {index image : List ℕ} {a b : ℕ} → Region image index a b → Stretch image index a a
stretch_none r = record { n = r.n; table = r.table; upto = r.begins; jumps = here }

-- a stretch and the next are one: the wider of their tables holds both
pub stretch_both : {index image : List ℕ} {a c b : ℕ} → Stretch image index a c → Stretch image index c b → Stretch image index a b
stretch_both {index} {image} {a} {c} {b} s t = go (dec_lt s.n t.n)
  where
    go : Dec (s.n < t.n) → Stretch image index a b
    go (yes p) = record { n = t.n; table = t.table; upto = t.upto; jumps = jumps-both (jumps_wider (omega arith) s.jumps) t.jumps }
    go (no p) = record { n = s.n; table = s.table; upto = omega (arith, t.upto); jumps = jumps-both s.jumps (jumps_wider (omega arith) t.jumps) }
