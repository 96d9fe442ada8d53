-- The bounds over a tree image: how many items there are at most, and how many bytes of text.
use mathlib.Core.Path.{◌≡◌, refl}
use mathlib.Core.Bool.{Bool, true, false}
use mathlib.Core.List.{List, [], ◌∷◌, ◌++◌}
use Prim.Native.Nat.{ℕ, zero, suc, ◌+◌, ◌*◌, ◌≤◌, ◌<◌}
use native.Mathlib.Omega.{arith}
use lib.Dec.{ltb, eqb}
use lib.ListN.{length, length-append, drop, length-take, length-drop}
use borrow.Author.Tests.{lt-ltb, eqb-true, leb-true}
use Rattle.text.specs.Basic.{sum}
use Rattle.items.specs.Item.{Item, Context}
use Rattle.items.specs.Records.{bytes_of, bytes}
use Rattle.items.proofs.Fits.{items_of}
use Rattle.comments.specs.Comments.{comment}
use Rattle.comments.proofs.Made.{excess, comment-made}
use Rattle.tree.specs.Tree.{Element, element_of, elements, le32, Forest, nil, tree, forest, choose, texts, count_n, count_b, texts_of, elements_of, tree_of}
use Rattle.tree.proofs.Passing.{Accepted}
use Rattle.printer.specs.Print.{source_file}
use Rattle.formatter.proofs.Bound.{count, Rising, end, node, rising_le, bound}

-- elements that are numbered in turn make a forest whose numbers rise
rising_go : (a b : Bool) (e : Element) {kids rest : Forest} → Rising (suc e.number) kids → Rising (suc e.number) rest → Rising e.number (choose a b nil (tree e kids rest) rest)
rising_go true b e r s = end
rising_go false true e r s = node {n = e.number} {e = e} (omega arith) r s
rising_go false false e r s = rising_le (omega arith) s

rising-from : (c n m : ℕ) (bs ts : List ℕ) → Rising n (forest m (elements c n bs ts))
unfolding elements forest
rising-from zero n m bs ts = end
rising-from (suc c) n m bs ts = let e = element_of n bs ts in
    rising_go (ltb e.level m) (eqb e.level m) e (rising-from c (suc n) (suc m) _ _) (rising-from c (suc n) m _ _)

rising : (image : List ℕ) → Rising 0 (tree_of image)
unfolding elements_of
rising image = rising-from (count_n image) 0 0 (drop 4 image) (texts_of image)

-- no element stands in a forest twice: the weight of the forests at k levels from m, where u is the unit
module _ (u : ℕ) where
  weight : Forest → ℕ
  weight f = 24 * (u * count f) + 4 * length (texts f)

  own : Element → ℕ
  own e = 24 * u + 4 * length e.text

  levels : ℕ → ℕ → List Element → ℕ
  levels m zero es = 0
  levels m (suc k) es = weight (forest m es) + levels (suc m) k es

  levels-nil : (m k : ℕ) → levels m k [] ≡ 0
  unfolding levels weight forest count texts
  levels-nil m zero = refl
  levels-nil m (suc k) = omega (arith, levels-nil (suc m) k)

  -- nothing at deeper levels begins with this element
  levels-low : (m k : ℕ) (e : Element) (es : List Element) → e.level < m → levels m k (e ∷ es) ≡ 0
  unfolding levels weight forest count texts
  levels-low m zero e es h = refl
  levels-low m (suc k) e es h = rw (lt-ltb e.level m h) (omega (arith, levels-low (suc m) k e es (omega arith)))

  tree-weight : (e : Element) (f g : Forest) → weight (tree e f g) ≡ own e + (weight f + weight g)
  unfolding weight own count texts
  tree-weight e f g = omega (arith, length-append e.text (texts f ++ texts g), length-append (texts f) (texts g))

  levels-go : (m k : ℕ) (e : Element) (es : List Element) (a b : Bool) → eqb e.level m ≡ b → levels (suc m) k (e ∷ es) ≤ own e + levels (suc m) (suc k) es
      → weight (choose a b nil (tree e (forest (suc m) es) (forest m es)) (forest m es)) + levels (suc m) k (e ∷ es) ≤ own e + (weight (forest m es) + levels (suc m) (suc k) es)
  unfolding levels
  levels-go m k e es true b q h = unfold weight count texts in omega arith
  levels-go m k e es false true q h = omega (arith, tree-weight e (forest (suc m) es) (forest m es), levels-low (suc m) k e es (omega (arith, eqb-true e.level m q)))
  levels-go m k e es false false q h = omega arith

  levels-cons : (m k : ℕ) (e : Element) (es : List Element) → levels m k (e ∷ es) ≤ own e + levels m (suc k) es
  unfolding levels forest
  levels-cons m zero e es = omega arith
  levels-cons m (suc k) e es = levels-go m k e es (ltb e.level m) (eqb e.level m) refl (levels-cons (suc m) k e es)

  levels-le : (es : List Element) (m k : ℕ) → levels m k es ≤ sum own es
  unfolding sum
  levels-le [] m k = omega (arith, levels-nil m k)
  levels-le (e ∷ es) m k = omega (arith, levels-cons m k e es, levels-le es m (suc k))

  elements-own : (c n : ℕ) (bs ts : List ℕ) → sum own (elements c n bs ts) ≤ 24 * (u * c) + 4 * length ts
  unfolding elements sum own
  elements-own zero n bs ts = omega arith
  elements-own (suc c) n bs ts = let l = le32 bs 4 in
      omega (arith, elements-own c (suc n) (drop 8 bs) (drop l ts), length-take l ts, length-drop l ts)

  image-weight : {image : List ℕ} → Accepted image → 24 * (u * count (tree_of image)) + 4 * length (texts (tree_of image)) ≤ 24 * (u * count_n image) + 4 * count_b image
  unfolding levels weight elements_of texts_of
  image-weight {image} a =
      let ts = texts_of image in
      omega (arith, levels-le (elements_of image) 0 1, elements-own (count_n image) 0 (drop 4 image) ts, length-drop (8 + 8 * count_n image) image, a.long)

sum_one : (xs : List Item) → sum (λ x. 1) xs ≡ length xs
unfolding sum
sum_one [] = refl
sum_one (x ∷ xs) = omega (arith, sum_one xs)

-- the records of an image: at most 24 for each of its elements and 4 for each byte of its texts, also where the printing stops
pub records-bound : {image : List ℕ} → Accepted image → (c : Context) → length (items_of (source_file (tree_of image) c 0)) ≤ 24 * count_n image + 4 * count_b image
records-bound {image} a c =
    let b = bound (λ x. 1) 1 (λ x e. omega arith) (λ s. omega arith) (λ j s loc. omega (arith, sum_one (comment j s loc), (comment-made j s loc).size)) (rising image) c 0 in
    omega (arith, b, sum_one (items_of (source_file (tree_of image) c 0)), image-weight 1 a)

bytes-excess : (xs : List Item) → length (bytes xs) ≤ 38 * length xs + sum excess xs
unfolding bytes sum
bytes-excess [] = omega arith
bytes-excess (x ∷ xs) = omega (arith, bytes-excess xs, length-append (bytes_of x) (bytes xs))

-- the bytes of their texts: at most 38 for each record, and 4 for each byte of the image's texts, also where the printing stops
pub texts-bound : {image : List ℕ} → Accepted image → (c : Context) → let xs = items_of (source_file (tree_of image) c 0) in length (bytes xs) ≤ 38 * length xs + 4 * count_b image
texts-bound {image} a c =
    let b = bound excess 0 (λ x e. omega (arith, leb-true (length (bytes_of x)) 38 e)) (λ s. omega arith) (λ j s loc. omega (arith, (comment-made j s loc).long)) (rising image) c 0 in
    omega (arith, b, bytes-excess (items_of (source_file (tree_of image) c 0)), image-weight 0 a)
