-- Which elements are a node's children: those that are reached by jumps from the one behind it.
use mathlib.Core.Path.{◌≡◌}
use mathlib.Core.List.{List}
use Prim.Native.Nat.{ℕ, ◌+◌, ◌<◌, ◌≤◌}
use native.Mathlib.Omega.{arith}
use native.Mathlib.Decide.{dec_lt}
use Rattle.tree.specs.Tree.{count_n}
use Rattle.tree.proofs.Passing.{accepted}
use Rattle.tree.specs.Index.{end_at, Indexed, Table, end_in, Child}
use Rattle.tree.proofs.Children.{child-first, child-next, end-at}
use Rattle.children.specs.Stretch.{Jumps, here, jump, Stretch}
use Rattle.children.proofs.Stretch.{jumps-le}

module _ {image index : List ℕ} {n : ℕ} (x : Indexed image index) (t : Table image index n) where
  -- no table of a tree's index goes past the tree: the last entry ends at itself
  few : n ≤ count_n image
  few = go (dec_lt (count_n image) n)
    where
      go : Dec (count_n image < n) → n ≤ count_n image
      go (yes p) = absurd (omega (arith, t.past (count_n image) p, x.entries.last.ends))
      go (no p) = omega arith

  onward : {i a j : ℕ} → Child image i a → Jumps index n a j → j ≤ end_in image i → Child image i j
  onward c here h = c
  onward {i} c (jump {a} {j} g k) h =
      let e : end_at index a ≡ end_in image a = end-at x a (omega (arith, few)) in
      let b : a < end_in image i = omega (arith, t.past a g, jumps-le t k) in
      onward (rw e (child-next (accepted image x.passed) c b)) k h

  -- j is a child of i, or the end of its children
  pub jumped : (i j : ℕ) → i < count_n image → Jumps index n (i + 1) j → j ≤ end_at index i → Child image i j
  jumped i j h k l = onward (child-first (accepted image x.passed) i h) k (rw (end-at x i h) at l)

-- the same by a stretch
pub stretched : {image index : List ℕ} (x : Indexed image index) (i j : ℕ) → i < count_n image → Stretch image index (i + 1) j → j ≤ end_at index i → Child image i j
stretched x i j h s l = jumped x s.table i j h s.jumps l
