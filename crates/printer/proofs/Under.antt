-- What an element prints, read off the index, and what holds of its children.
use Rattle.std.specs.Prelude.{◌≡◌, ℕ, zero, suc, ◌+◌, ◌-◌, ◌^◌, ◌<◌, Bool, true, false, ◌&&◌, ltb, leb, List, [], ◌++◌, drop}
use mathlib.Core.Path.{refl, ◌∙◌, sym}
use mathlib.Core.List.{append-nil}
use native.Mathlib.Omega.{arith}
use native.Mathlib.Decide.{dec_lt}
use borrow.Author.Tests.{eq-eqb, ne_eqb, eqb-true, ltb-false, not-false}
use Rattle.items.specs.Item.{Print, text, say}
use Rattle.tree.specs.Tree.{nil, Part, count_n, elements_of, forest, tree_of, texts, parts}
use Rattle.tree.specs.Image.{kind_in, level_in, size_in, text_in, element_in}
use Rattle.tree.specs.Refusal.{node_with_text}
use Rattle.tree.proofs.FirstWhere.{where_never}
use Rattle.tree.proofs.Passing.{Accepted, accepted}
use Rattle.tree.proofs.Ends.{end-in, end-deep}
use Rattle.tree.proofs.Walk.{forest-none, forest-end, forest-here, forest-below}
use Rattle.tree.specs.Index.{kind_at, end_at, text_at, Indexed, Region, end_in}
use Rattle.tree.specs.Class.{first}
use Rattle.tree.specs.declared.class.Class.TheVariants as Class
use Rattle.tree.proofs.Children.{next-placed, text-under, tree-root, root-level, kind-at, end-at, text_at_lem, children, child-within, table, region-of}
use Rattle.tree.proofs.Elements.{elements-cons, elements-none}
use Rattle.children.specs.Stretch.{Stretch}
use Rattle.children.specs.Between.{has}
use Rattle.children.proofs.Kids.{jumped, stretched}
use Rattle.children.proofs.Among.{among}
use Rattle.printer.specs.Print.{element, prints, source, source_file}
use Rattle.printer.specs.Under.{kids_of, under, print_of, parts_of, At, Kid}

-- how many elements are under element i, with it: printing goes on with fewer
unfoldable pub size : List ℕ → ℕ → ℕ
size index i = end_at index i - i

module _ (pr : ℕ → Print) (k n : ℕ) (s below : List ℕ) (ps : List Part) where
  -- a token prints its own text
  of-token : leb 64 k ≡ true → element pr k n s below ps ≡ say (text s)
  unfolding element
  of-token e = rw e

  -- a node does not
  of_node : (t : List ℕ) → leb 64 k ≡ false → element pr k n s below ps ≡ element pr k n t below ps
  unfolding element
  of_node t e = rw e

and_left : (a b : Bool) → (a && b) ≡ false → a ≡ true → b ≡ false
and_left a b e h = rw h at e

module _ {image : List ℕ} (a : Accepted image) (i : ℕ) (h : i < count_n image) where
  -- nothing is under a token
  token-bare : leb 64 (kind_in image i) ≡ true → kids_of image i ≡ nil
  token-bare e = go (dec_lt (i + 1) (count_n image))
    where
      go : Dec (i + 1 < count_n image) → kids_of image i ≡ nil
      go (yes p) =
          let l : ltb (level_in image i) (level_in image (i + 1)) ≡ false = and_left (leb 64 (kind_in image i)) _ (next-placed a i p).leaf e in
          rw (elements-cons image (i + 1) p) (forest-end (suc (level_in image i)) (element_in image (i + 1)) (drop (i + 1 + 1) (elements_of image)) (omega (arith, ltb-false (level_in image i) (level_in image (i + 1)) l)))
      go (no p) = rw (elements-none image (i + 1) (omega arith)) (forest-none (suc (level_in image i)))

  -- a node has no text of its own
  node-bare : leb 64 (kind_in image i) ≡ false → text_in image i ≡ []
  unfolding text_in node_with_text
  node-bare e =
      let z : size_in image i ≡ 0 = eqb-true (size_in image i) 0 (not-false _ (rw e at (where_never node_with_text image i h a.nodes))) in
      rw z

  -- an element's own text and those below it: one of them is all
  element-text : (pr : ℕ → Print) (ps : List Part)
      → element pr (kind_in image i) i (text_in image i) (texts (kids_of image i)) ps ≡ element pr (kind_in image i) i (text_in image i ++ texts (kids_of image i)) (text_in image i ++ texts (kids_of image i)) ps
  unfolding texts
  element-text pr ps = go (leb 64 (kind_in image i)) refl
    where
      go : (b : Bool) → leb 64 (kind_in image i) ≡ b
          → element pr (kind_in image i) i (text_in image i) (texts (kids_of image i)) ps ≡ element pr (kind_in image i) i (text_in image i ++ texts (kids_of image i)) (text_in image i ++ texts (kids_of image i)) ps
      go true e =
          let z : text_in image i ++ texts (kids_of image i) ≡ text_in image i = rw (token-bare e) (append-nil (text_in image i)) in
          rw z (of-token pr _ i _ _ ps e ∙ sym (of-token pr _ i _ _ ps e))
      go false e = rw (node-bare e) (of_node pr _ i _ _ ps _ e)

module _ {image index : List ℕ} {i : ℕ} (t : At image index i) where
  at-accepted : Accepted image
  at-accepted = accepted image t.indexed.passed

  -- what an element prints, read off the index
  pub node-is : print_of image i ≡ element (under image i) (kind_at index i) i (text_at image index i) (text_at image index i) (parts_of image index i)
  unfolding print_of
  node-is =
      element-text at-accepted i t.within (under image i) (parts (kids_of image i))
      ∙ rw (kind-at t.indexed i t.within, text_at_lem t.indexed i t.within, children t.indexed i t.within, text-under at-accepted i t.within)

  -- where its children may be walked
  pub at-region : {a b : ℕ} → a ≡ i + 1 → b ≡ end_at index i → Region image index a b
  at-region q r = region-of t.indexed i t.within q r

  -- its number has room for one more
  pub at_next : i + 1 < 2 ^ 32
  at_next = omega (arith, t.within, at-accepted.few-elements)

  -- what is reached by jumps is a child
  pub kid_of : {j : ℕ} → Stretch image index (i + 1) j → j < end_at index i → Kid image index i j
  kid_of {j} s h = record { at = t; child = stretched t.indexed i j t.within s (omega arith); before = h }

  -- and so is what an accessor finds
  pub kid-found : {j : ℕ} → has j (parts_of image index i) ≡ true → Kid image index i j
  kid-found {j} e =
      let r : Region image index (i + 1) (end_at index i) = at-region refl refl in
      let m = among r e in
      record { at = t; child = jumped t.indexed r.table i j t.within m.jumps (omega (arith, m.before)); before = m.before }

module _ {image index : List ℕ} {i j : ℕ} (k : Kid image index i j) where
  kid-end : j < end_in image i
  kid-end = rw (end-at k.at.indexed i k.at.within) at k.before

  -- a child is an element
  pub kid_at : At image index j
  kid_at = record { indexed = k.at.indexed; within = omega (arith, kid-end, end-in image i k.at.within) }

  -- with fewer elements
  pub kid-less : size index j < size index i
  unfolding size
  kid-less = omega (arith, k.child.behind, child-within k.at.indexed i j k.child k.before, (table k.at.indexed).past j kid_at.within)

  -- an element is the first tree of its level
  here : prints (forest (level_in image j) (drop j (elements_of image))) j ≡ print_of image j
  unfolding prints print_of under
  here = rw (elements-cons image j kid_at.within, forest-here (level_in image j) (element_in image j) (drop (j + 1) (elements_of image)) refl, eq-eqb j j refl)

  -- it is met from each element on that stands behind i and before it; d is how far it is
  later : (d a : ℕ) → a + d ≡ j → i < a → prints (forest (suc (level_in image i)) (drop a (elements_of image))) j ≡ print_of image j
  unfolding prints
  later zero a e h = let q : a ≡ j = omega arith in rw q (rw (k.child.level kid-end) at here)
  later (suc d) a e h =
      let w : a < count_n image = omega (arith, kid_at.within) in
      go w (end-deep image i a k.at.within h (omega (arith, kid-end))) (dec_lt (suc (level_in image i)) (level_in image a)) (later d (a + 1) (omega arith) (omega arith))
    where
      go : a < count_n image → level_in image i < level_in image a → Dec (suc (level_in image i) < level_in image a)
          → prints (forest (suc (level_in image i)) (drop (a + 1) (elements_of image))) j ≡ print_of image j
          → prints (forest (suc (level_in image i)) (drop a (elements_of image))) j ≡ print_of image j
      go w l (yes p) f = rw (elements-cons image a w, forest-below (suc (level_in image i)) (element_in image a) (drop (a + 1) (elements_of image)) p) f
      go w l (no p) f = rw (elements-cons image a w, forest-here (suc (level_in image i)) (element_in image a) (drop (a + 1) (elements_of image)) (omega arith), ne_eqb j a (omega arith)) f

  -- what a child prints is what it prints by itself
  pub kid-print : under image i j ≡ print_of image j
  unfolding under
  kid-print = later (j - (i + 1)) (i + 1) (omega (arith, k.child.behind)) (omega arith)

-- the source file is the first element
pub source_is : {image index : List ℕ} → Indexed image index → source_file (tree_of image) ≡ source (under image 0) (parts_of image index 0) (first Class.Expr (parts_of image index 0))
unfolding source_file under
source_is {image} {index} x =
    let a : Accepted image = accepted image x.passed in
    rw (tree-root a, children x 0 a.not-empty, root-level a)
