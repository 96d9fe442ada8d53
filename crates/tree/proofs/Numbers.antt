-- Numbers read in what stands from a place on.
use mathlib.Core.Path.{◌≡◌}
use mathlib.Core.List.{List}
use Prim.Native.Nat.{ℕ, ◌+◌, ◌*◌}
use native.Mathlib.Nat.{add-zero}
use lib.ListN.{drop}
use Rattle.tree.specs.Tree.{le16, le32}
use Rattle.tree.specs.Image.{header_at, kind_in, level_in, size_in}
use Rattle.tree.proofs.Elements.{le16-drop, le32-drop, level_in_lem, size_in_lem}

-- a number of any width: f reads it, and in what stands from a place on reads what stands there
pub number-as :
    (f : List ℕ → ℕ → ℕ) → ((n : ℕ) (s : List ℕ) (i : ℕ) → f (drop n s) i ≡ f s (n + i))
    → (s : List ℕ) (at : ℕ) {t : List ℕ} {n : ℕ} → t ≡ drop at s → n ≡ f t 0 → n ≡ f s at
number-as f d s at p q = rw (q, p, d at s 0, add-zero at)

pub header_as : (s : List ℕ) (at : ℕ) {t : List ℕ} {k l z : ℕ} → t ≡ drop at s → k ≡ le16 t 0 → l ≡ le16 t 2 → z ≡ le32 t 4 → record { kind = k; level = l; size = z } ≡ header_at s at
unfolding header_at
header_as s at p q r u = rw (q, r, u, p, le16-drop at s 0, le16-drop at s 2, le32-drop at s 4, add-zero at)

-- the element at its place in the image
pub header_in : (image : List ℕ) (i : ℕ) → header_at image (4 + 8 * i) ≡ record { kind = kind_in image i; level = level_in image i; size = size_in image i }
unfolding header_at kind_in
header_in image i = rw (level_in_lem image i, size_in_lem image i)
