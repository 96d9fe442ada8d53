-- Jumps over siblings: one part more behind those so far.
use mathlib.Core.Path.{◌≡◌, refl, ap}
use mathlib.Core.Bool.{Bool, true, false, cond}
use mathlib.Core.List.{List, [], ◌∷◌, ◌++◌}
use Prim.Native.Nat.{ℕ, ◌<◌, ◌≤◌}
use native.Mathlib.Omega.{arith}
use Rattle.tree.specs.Tree.{Part}
use Rattle.tree.specs.declared.class.Kinds.{Kinds}
use Rattle.tree.specs.Class.{one_of, all_of}
use Rattle.tree.specs.Index.{Table, parts_from, part_at, end_at}
use Rattle.tree.proofs.Siblings.{parts_next, parts-over}
use Rattle.children.specs.Stretch.{Jumps, here, jump}
use Rattle.children.proofs.Stretch.{jumps-le}

module _ {index image : List ℕ} {n : ℕ} (t : Table image index n) where
  -- one element more behind
  pub parts_more : {a j : ℕ} → Jumps index n a j → j < n → parts_from image index a (end_at index j) ≡ parts_from image index a j ++ part_at image index j ∷ []
  parts_more (here {a}) g =
      rw (parts_next t a (end_at index a) (t.inside a g) (t.past a g), parts-over index image (end_at index a) (end_at index a) (omega arith), parts-over index image a a (omega arith))
  parts_more (jump {a} {j} h k) g =
      let p : a < end_at index a = t.past a h in
      let r : j < end_at index j = t.past j g in
      let l : end_at index a ≤ j = jumps-le t k in
      rw (parts_next t a (end_at index j) (t.inside j g) (omega arith), parts_next t a j (omega arith) (omega arith), parts_more k g)

pub all_more : (w : Kinds) (xs : List Part) (x : Part) → all_of w (xs ++ x ∷ []) ≡ all_of w xs ++ cond (one_of w x.kind) (x ∷ []) []
unfolding all_of
all_more w [] x = refl
all_more w (y ∷ ys) x = go (one_of w y.kind) (all_more w ys x)
  where
    go : (b : Bool) → all_of w (ys ++ x ∷ []) ≡ all_of w ys ++ cond (one_of w x.kind) (x ∷ []) [] → cond b (y ∷ all_of w (ys ++ x ∷ [])) (all_of w (ys ++ x ∷ [])) ≡ cond b (y ∷ all_of w ys) (all_of w ys) ++ cond (one_of w x.kind) (x ∷ []) []
    go true e = ap (λ (r : List Part). y ∷ r) e
    go false e = e
