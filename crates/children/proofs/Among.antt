-- What is found among the parts of a region, and the regions in front of it and behind it.
use mathlib.Core.Path.{◌≡◌, refl, sym}
use mathlib.Core.Bool.{Bool, true, false, false≢true, cond, ◌||◌}
use mathlib.Core.Option.{Option, none, some}
use mathlib.Core.List.{List, [], ◌∷◌}
use Prim.Native.Nat.{ℕ, zero, suc, ◌+◌, ◌-◌, ◌<◌, ◌≤◌}
use native.Mathlib.Omega.{arith}
use native.Mathlib.Decide.{dec_lt}
use lib.Dec.{eqb}
use borrow.Author.Tests.{eq-eqb, ne_eqb, eqb-true}
use Rattle.text.specs.Basic.{any, or_else}
use Rattle.tree.specs.Tree.{Part}
use Rattle.tree.specs.declared.class.Kinds.{Kinds}
use Rattle.tree.specs.Class.{one_of, nth_of, last_of, number_of}
use Rattle.tree.specs.Index.{Table, Region, parts_from, end_at}
use Rattle.tree.proofs.Siblings.{parts_next, parts-over}
use Rattle.children.specs.Reading.{behind, up_to}
use Rattle.children.specs.Stretch.{Jumps, here, jump}
use Rattle.children.specs.Between.{has}
use Rattle.children.proofs.Stretch.{jumps-le}

-- j is one of the siblings from a on that begin before b.
pub record Among {index image : List ℕ} {a b : ℕ} (r : Region image index a b) (j : ℕ) : Type 0 where
  pub jumps : Jumps index r.n a j
  pub before : j < b

or_right : (a : Bool) {b : Bool} → b ≡ true → (a || b) ≡ true
or_right true e = refl
or_right false e = e

-- there is none
pub none-some : {A : Type 0} (j : ℕ) → ◌≡◌ {A = Option ℕ} none (some j) → A
none-some j e = let z : ◌≡◌ {A = ℕ} 0 1 = cc in absurd (omega arith)

module _ (j : ℕ) where
  -- the first has the number, or another
  pub has_here : (x : Part) (xs : List Part) → some x.number ≡ some j → has j (x ∷ xs) ≡ true
  unfolding has any
  has_here x xs e = let q : x.number ≡ j = cc in rw (eq-eqb x.number j q)

  pub has-later : (x : Part) (xs : List Part) → has j xs ≡ true → has j (x ∷ xs) ≡ true
  unfolding has any
  has-later x xs e = or_right (eqb x.number j) e

module _ (w : Kinds) (j : ℕ) where
  -- the n-th of these kinds
  pub nth-has : (n : ℕ) (xs : List Part) → number_of (nth_of w n xs) ≡ some j → has j xs ≡ true
  unfolding nth_of
  nth-has n [] e = none-some j e
  nth-has zero (x ∷ xs) e = go (one_of w x.kind) e (nth-has zero xs)
    where
      go : (t : Bool) → number_of (cond t (some x) (nth_of w zero xs)) ≡ some j → (number_of (nth_of w zero xs) ≡ some j → has j xs ≡ true) → has j (x ∷ xs) ≡ true
      go true e f = has_here j x xs e
      go false e f = has-later j x xs (f e)
  nth-has (suc n) (x ∷ xs) e = go (one_of w x.kind) e (nth-has n xs) (nth-has (suc n) xs)
    where
      go : (t : Bool) → number_of (cond t (nth_of w n xs) (nth_of w (suc n) xs)) ≡ some j → (number_of (nth_of w n xs) ≡ some j → has j xs ≡ true) → (number_of (nth_of w (suc n) xs) ≡ some j → has j xs ≡ true) → has j (x ∷ xs) ≡ true
      go true e f g = has-later j x xs (f e)
      go false e f g = has-later j x xs (g e)

  -- the last of these kinds
  pub last_has : (xs : List Part) → number_of (last_of w xs) ≡ some j → has j xs ≡ true
  unfolding last_of
  last_has [] e = none-some j e
  last_has (x ∷ xs) e = go (last_of w xs) (one_of w x.kind) e (last_has xs)
    where
      go : (o : Option Part) (t : Bool) → number_of (or_else o (cond t (some x) none)) ≡ some j → (number_of o ≡ some j → has j xs ≡ true) → has j (x ∷ xs) ≡ true
      go (some y) t e f = has-later j x xs (f e)
      go none true e f = has_here j x xs e
      go none false e f = none-some j e

module _ (j : ℕ) {index image : List ℕ} {n b : ℕ} (t : Table image index n) (k : b ≤ n) where
  no_part : {A : Type 0} (a : ℕ) → b ≤ a → has j (parts_from image index a b) ≡ true → A
  unfolding has any
  no_part a h e = absurd (false≢true (rw (parts-over index image a b h) at e))

  has-walk : (f a : ℕ) → b ≤ a + f → has j (parts_from image index a b) ≡ true → Jumps index n a j × (j < b)
  unfolding has any
  has-walk zero a h e = no_part a (omega arith) e
  has-walk (suc f) a h e = go (dec_lt a b) (has-walk f (end_at index a))
    where
      at : a < b → (u : Bool) → eqb a j ≡ u → (b ≤ end_at index a + f → has j (parts_from image index (end_at index a) b) ≡ true → Jumps index n (end_at index a) j × (j < b)) → Jumps index n a j × (j < b)
      at p true q g = let m : j ≡ a = sym (eqb-true a j q) in rw m (here, p)
      at p false q g =
          let l : has j (parts_from image index (end_at index a) b) ≡ true = rw (parts_next t a b k p, q) at e in
          let (d, c) = g (omega (arith, t.past a (omega arith))) l in
          (jump {a = a} (omega arith) d, c)

      go : Dec (a < b) → (b ≤ end_at index a + f → has j (parts_from image index (end_at index a) b) ≡ true → Jumps index n (end_at index a) j × (j < b)) → Jumps index n a j × (j < b)
      go (yes p) g = at p (eqb a j) refl g
      go (no p) g = no_part a (omega arith) e

-- a number that a part has is one of the siblings
pub among : {index image : List ℕ} {a b j : ℕ} (r : Region image index a b) → has j (parts_from image index a b) ≡ true → Among r j
among {index} {image} {a} {b} {j} r e = let (k, l) = has-walk j r.table r.ends (b - a) a (omega arith) e in record { jumps = k; before = l }

module _ {index image : List ℕ} {n : ℕ} (t : Table image index n) where
  behind-jumps : {a j : ℕ} → Jumps index n a j → (b : ℕ) → b ≤ n → j < b → behind j (parts_from image index a b) ≡ parts_from image index (end_at index j) b
  unfolding behind
  behind-jumps (here {a}) b k h = rw (parts_next t a b k h, eq-eqb a a refl)
  behind-jumps (jump {a} {j} g q) b k h =
      let p : a < end_at index a = t.past a g in
      let l : end_at index a ≤ j = jumps-le t q in
      rw (parts_next t a b k (omega arith), ne_eqb a j (omega arith)) (behind-jumps q b k h)

  upto-jumps : {a j : ℕ} → Jumps index n a j → (b : ℕ) → b ≤ n → j < b → up_to j (parts_from image index a b) ≡ parts_from image index a j
  unfolding up_to
  upto-jumps (here {a}) b k h = rw (parts_next t a b k h, eq-eqb a a refl, parts-over index image a a (omega arith))
  upto-jumps (jump {a} {j} g q) b k h =
      let p : a < end_at index a = t.past a g in
      let l : end_at index a ≤ j = jumps-le t q in
      rw (parts_next t a b k (omega arith), ne_eqb a j (omega arith), parts_next t a j (omega arith) (omega arith), upto-jumps q b k h)

  upto-walk : (f a b j : ℕ) → b ≤ n → b ≤ a + f → j < a → up_to j (parts_from image index a b) ≡ parts_from image index a b
  unfolding up_to
  upto-walk zero a b j k h l = rw (parts-over index image a b (omega arith))
  upto-walk (suc f) a b j k h l = go (dec_lt a b) (upto-walk f (end_at index a) b j k)
    where
      go : Dec (a < b) → (b ≤ end_at index a + f → j < end_at index a → up_to j (parts_from image index (end_at index a) b) ≡ parts_from image index (end_at index a) b) → up_to j (parts_from image index a b) ≡ parts_from image index a b
      go (yes p) g =
          let q : a < end_at index a = t.past a (omega arith) in
          rw (parts_next t a b k p, ne_eqb a j (omega arith), g (omega arith) (omega arith))
      go (no p) g = rw (parts-over index image a b (omega arith))

module _ {index image : List ℕ} {a b j : ℕ} {r : Region image index a b} (h : Among r j) where
  -- it is an element of the index
  pub among_in : j < r.n
  among_in = omega (arith, h.before, r.ends)

  -- those behind it
  pub among-behind : behind j (parts_from image index a b) ≡ parts_from image index (end_at index j) b
  among-behind = behind-jumps r.table h.jumps b r.ends h.before

  -- those before it
  pub among-upto : up_to j (parts_from image index a b) ≡ parts_from image index a j
  among-upto = upto-jumps r.table h.jumps b r.ends h.before

  -- where they may be walked
  abbrev pub region-behind : Region image index (end_at index j) b
  region-behind = record { n = r.n; table = r.table; begins = r.table.inside j among_in; ends = r.ends }

  pub region-upto : Region image index a j
  region-upto = record { n = r.n; table = r.table; begins = r.begins; ends = omega (arith, among_in) }

-- a number before them is none of theirs
pub region-none : {index image : List ℕ} {a b : ℕ} (j : ℕ) → Region image index a b → j < a → up_to j (parts_from image index a b) ≡ parts_from image index a b
region-none {index} {image} {a} {b} j r l = upto-walk r.table (b - a) a b j r.ends (omega arith) l
