-- The walk to the end of a subtree: by jumps over the subtrees behind an element that are deeper.
use mathlib.Core.Path.{◌≡◌, refl, ◌∙◌, sym}
use mathlib.Core.List.{List}
use Prim.Native.Nat.{ℕ, ◌+◌, ◌*◌, ◌-◌, ◌<◌, ◌≤◌}
use native.Mathlib.Omega.{arith}
use lib.ListN.{get_or}
use Rattle.tree.specs.Tree.{count_n}
use Rattle.tree.specs.Image.{level_in}
use Rattle.tree.proofs.Ends.{deeper_from, deeper-not, deeper-over, deeper-jump, end-past, end-in}
use Rattle.tree.specs.Index.{IndexedFrom, end_at, end_in}

-- What lies between i and j is deeper than i.
pub record Ending (image : List ℕ) (i j : ℕ) : Type 0 where
  pub behind : i < j
  pub upto : j ≤ count_n image
  pub rest : j + deeper_from image (level_in image i) j ≡ end_in image i

pub ending-none : (image : List ℕ) (i : ℕ) → i < count_n image → Ending image i (i + 1)
unfolding end_in
ending-none image i h = record { behind = omega arith; upto = omega arith; rest = refl }

module _ {image : List ℕ} {i j n : ℕ} (s : Ending image i j) (e : n ≡ count_n image) where
  pub ending-all : n ≤ j → j ≡ end_in image i
  ending-all h =
      let q : count_n image ≡ j = omega (arith, s.upto) in
      omega (arith, s.rest, rw q at (deeper-over image (level_in image i)))

  module _ {l k : ℕ} (h : j < n) (p : l ≡ level_in image i) (q : k ≡ level_in image j) where
    pub ending-met : k ≤ l → j ≡ end_in image i
    ending-met g = omega (arith, s.rest, deeper-not image (level_in image i) j (omega arith) (omega arith))

    module _ {table : List ℕ} (t : IndexedFrom image table (i + 1)) where
      -- the table has the end of j
      jumps : get_or table (j * 3 + 1) 0 ≡ end_in image j
      unfolding end_at
      jumps = (t.entry j (omega (arith, s.behind)) (omega arith)).ends

      pub ending-more : l < k → Ending image i (get_or table (j * 3 + 1) 0)
      ending-more g =
          rw jumps
          (record {
            behind = omega (arith, s.behind, end-past image j);
            upto = end-in image j (omega arith);
            rest = sym (deeper-jump image (level_in image i) j (omega arith) (omega arith)) ∙ s.rest;
          })

      pub ending-less : n - get_or table (j * 3 + 1) 0 < n - j
      ending-less = omega (arith, jumps, end-past image j)
