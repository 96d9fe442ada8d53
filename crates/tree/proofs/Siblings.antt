-- The siblings of a region, one part at a time.
use mathlib.Core.Path.{◌≡◌, refl, ap}
use mathlib.Core.Bool.{Bool, true, false, cond}
use mathlib.Core.List.{List, [], ◌∷◌}
use Prim.Native.Nat.{ℕ, zero, suc, ◌+◌, ◌-◌, ◌<◌, ◌≤◌}
use native.Mathlib.Omega.{arith}
use lib.Dec.{ltb}
use borrow.Author.Tests.{lt-ltb, le-ltb, ltb-true}
use Rattle.tree.specs.Tree.{Part}
use Rattle.tree.specs.Index.{end_at, part_at, walk, parts_from, Table, Region}

module _ {index image : List ℕ} {n : ℕ} (t : Table image index n) where
  -- steps to spare do not matter
  enough : (f g a b : ℕ) → b ≤ n → b ≤ a + f → b ≤ a + g → walk f image index a b ≡ walk g image index a b
  unfolding walk
  enough zero zero a b k h h' = refl
  enough zero (suc g) a b k h h' = rw (le-ltb a b (omega arith))
  enough (suc f) zero a b k h h' = rw (le-ltb a b (omega arith))
  enough (suc f) (suc g) a b k h h' = go (ltb a b) refl (enough f g (end_at index a) b k)
    where
      go : (q : Bool) → ltb a b ≡ q → (b ≤ end_at index a + f → b ≤ end_at index a + g → walk f image index (end_at index a) b ≡ walk g image index (end_at index a) b) → cond q (part_at image index a ∷ walk f image index (end_at index a) b) [] ≡ cond q (part_at image index a ∷ walk g image index (end_at index a) b) []
      go true q r =
          let p : a < end_at index a = t.past a (omega (arith, ltb-true a b q)) in
          ap (λ (r : List Part). part_at image index a ∷ r) (r (omega arith) (omega arith))
      go false q r = refl

  pub parts_next : (a b : ℕ) → b ≤ n → a < b → parts_from image index a b ≡ part_at image index a ∷ parts_from image index (end_at index a) b
  unfolding parts_from walk
  parts_next a b k h =
      let q : b - a ≡ suc (b - suc a) = omega arith in
      let p : a < end_at index a = t.past a (omega arith) in
      rw (q, lt-ltb a b h, enough (b - suc a) (b - end_at index a) (end_at index a) b k (omega arith) (omega arith))

pub parts-over : (index image : List ℕ) (a b : ℕ) → b ≤ a → parts_from image index a b ≡ []
unfolding parts_from walk
parts-over index image a b h =
    let q : b - a ≡ 0 = omega arith in
    rw q

module _ {index image : List ℕ} {a b : ℕ} (r : Region image index a b) (h : a < b) where
  pub region-part : parts_from image index a b ≡ part_at image index a ∷ parts_from image index (end_at index a) b
  region-part = parts_next r.table a b r.ends h

  pub region-past : a < end_at index a
  region-past = r.table.past a (omega (arith, r.ends))

  pub region-next : Region image index (end_at index a) b
  region-next = record { n = r.n; table = r.table; begins = r.table.inside a (omega (arith, r.ends)); ends = r.ends }
