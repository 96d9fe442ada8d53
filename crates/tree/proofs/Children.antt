-- The children of a node by jumps over the index are those of its tree.
use mathlib.Core.Path.{◌≡◌, refl, ◌∙◌, sym}
use mathlib.Core.Bool.{Bool, true, false, cond, ◌&&◌}
use mathlib.Core.Option.{Option, none, some}
use mathlib.Core.List.{List, [], ◌∷◌, ◌++◌}
use Prim.Native.Nat.{ℕ, zero, suc, ◌+◌, ◌-◌, ◌≤◌, ◌<◌, ◌*◌}
use native.Mathlib.Omega.{arith}
use native.Mathlib.Decide.{dec_lt}
use lib.Dec.{eqb}
use lib.ListN.{take, drop, length}
use lib.Seq.{drop-drop, take-add}
use borrow.Author.Tests.{lt-ltb, le-ltb, eqb-true}
use Rattle.tree.specs.Tree.{count_n, texts_of, elements_of, Part, nil, tree, forest, tree_of, texts, parts}
use Rattle.tree.specs.Image.{kind_in, level_in, size_in, start_in, place_in, text_in, element_in}
use Rattle.tree.specs.Refusal.{misplaced_after, first_misplaced}
use Rattle.tree.proofs.FirstWhere.{misplaced_from, misplaced_search, still-none, split-none}
use Rattle.tree.proofs.Passing.{Accepted, accepted, passing}
use Rattle.tree.proofs.Ends.{deeper_from, deeper-here, deeper-not, deeper-over, end-past, end-in, end-deep, end-up, end-under}
use Rattle.tree.specs.Index.{kind_at, end_at, start_at, Indexed, Table, Region, text_at, part_at, walk, parts_from, end_in, Indexable, Child}
use Rattle.tree.proofs.Walk.{forest-none, forest-end, forest-here, forest-skip, Placed, well_placed, joined, texts-under}
use Rattle.text.proofs.Lists.{and_true}
use Rattle.tree.specs.Answer.{said, answer}
use Rattle.std.specs.Prelude.{Result, Ok}
use Rattle.numbers.specs.declared.refusal.Refusal.{Refusal}
use Rattle.tree.specs.declared.Accepted as code
use Rattle.tree.proofs.Elements.{elements-cons, elements-none, start-next}

-- ---- texts are parts of the text section

module _ (image : List ℕ) where
  start-add : (i d : ℕ) → start_in image i ≤ start_in image (i + d)
  start-add i zero = let e : i + 0 ≡ i = omega arith in rw e (omega arith)
  start-add i (suc d) = let e : i + suc d ≡ i + d + 1 = omega arith in rw e (omega (arith, start-next image (i + d), start-add i d))

  -- texts do not go back
  pub start_le : (i j : ℕ) → i ≤ j → start_in image i ≤ start_in image j
  start_le i j h = let e : i + (j - i) ≡ j = omega arith in rw e at (start-add i (j - i))

  -- the texts from element a up to element b
  abbrev pub between : ℕ → ℕ → List ℕ
  between a b = take (start_in image b - start_in image a) (drop (start_in image a) (texts_of image))

  between_next : (a b : ℕ) → a + 1 ≤ b → text_in image a ++ between (a + 1) b ≡ between a b
  unfolding text_in
  between_next a b h =
      let s : start_in image b - start_in image a ≡ size_in image a + (start_in image b - start_in image (a + 1)) = omega (arith, start-next image a, start_le (a + 1) b h) in
      let t : drop (start_in image (a + 1)) (texts_of image) ≡ drop (size_in image a) (drop (start_in image a) (texts_of image)) = rw (start-next image a, drop-drop) in
      rw (s, t) (sym (take-add (size_in image a) (start_in image b - start_in image (a + 1)) (drop (start_in image a) (texts_of image))))

  -- the same by places in the image
  between-places : (a b : ℕ) → take (place_in image b - place_in image a) (drop (place_in image a) image) ≡ between a b
  unfolding texts_of
  between-places a b =
      let e : place_in image b - place_in image a ≡ start_in image b - start_in image a = omega arith in
      rw (e, drop-drop)

  between_none : (a : ℕ) → between a a ≡ []
  between_none a = let e : start_in image a - start_in image a ≡ 0 = omega arith in rw e

  -- the texts of the elements deeper than l, from a on; c is how many elements are left
  joined-between : (c l a : ℕ) → count_n image ≡ a + c → joined (suc l) (drop a (elements_of image)) ≡ between a (a + deeper_from image l a)
  unfolding joined
  joined-between zero l a e =
      let n : count_n image ≡ a = omega arith in
      let d : a + deeper_from image l a ≡ a = omega (arith, rw n at (deeper-over image l)) in
      let j : joined (suc l) (drop a (elements_of image)) ≡ [] = rw (elements-none image a n) in
      j ∙ rw d (sym (between_none a))
  joined-between (suc c) l a e = go (dec_lt l (level_in image a)) (joined-between c l (a + 1) (omega arith))
    where
      go : Dec (l < level_in image a) → joined (suc l) (drop (a + 1) (elements_of image)) ≡ between (a + 1) (a + 1 + deeper_from image l (a + 1))
          → joined (suc l) (drop a (elements_of image)) ≡ between a (a + deeper_from image l a)
      go (yes p) f =
          let d : a + deeper_from image l a ≡ a + 1 + deeper_from image l (a + 1) = omega (arith, deeper-here image l a (omega arith) p) in
          let j : joined (suc l) (drop a (elements_of image)) ≡ text_in image a ++ joined (suc l) (drop (a + 1) (elements_of image)) = rw (elements-cons image a (omega arith), le-ltb (level_in image a) (suc l) p) in
          j ∙ rw (f, d) (between_next a (a + 1 + deeper_from image l (a + 1)) (omega arith))
      go (no p) f =
          let d : a + deeper_from image l a ≡ a = omega (arith, deeper-not image l a (omega arith) (omega arith)) in
          let j : joined (suc l) (drop a (elements_of image)) ≡ [] = rw (elements-cons image a (omega arith), lt-ltb (level_in image a) (suc l) (omega arith)) in
          j ∙ rw d (sym (between_none a))

-- ---- an image that passed the tests

-- the forest behind an element's subtree
forest-past : (image : List ℕ) (j : ℕ) → forest (level_in image j) (drop (end_in image j) (elements_of image)) ≡ forest (level_in image j) (drop (j + 1) (elements_of image))
unfolding end_in
forest-past image j = rw drop-drop at (forest-skip (level_in image j) (drop (j + 1) (elements_of image)))

split_root : (b : Bool) (i : ℕ) (o : Option ℕ) → cond b o (some i) ≡ none → (b ≡ true) × (o ≡ none)
split_root true i o h = (refl, h)
split_root false i o h = let z : ◌≡◌ {A = ℕ} 0 1 = cc in absurd (omega arith)

module _ {image : List ℕ} (a : Accepted image) where
  placing : ((eqb (kind_in image 0) 1 && eqb (level_in image 0) 0) ≡ true) × (misplaced_from image 1 ≡ none)
  unfolding first_misplaced
  placing = split_root _ 0 _ (rw (elements-cons image 0 a.not-empty) at a.places)

  -- the first element is at level 0
  pub root-level : level_in image 0 ≡ 0
  root-level = eqb-true (level_in image 0) 0 (and_true (eqb (kind_in image 0) 1) _ placing.0).1

  -- the elements behind element i are where they may be
  pub placed : (i : ℕ) → i < count_n image → misplaced_after (element_in image i) (drop (i + 1) (elements_of image)) ≡ none
  placed i h =
      let e : 1 + i - 1 ≡ i = omega arith in
      let f : 1 + i ≡ i + 1 = omega arith in
      rw (e, f) at (still-none (misplaced_search image) 1 i (omega arith) placing.1)

  -- each element behind another
  pub next-placed : (i : ℕ) → i + 1 < count_n image → Placed (element_in image i) (element_in image (i + 1))
  unfolding misplaced_after
  next-placed i h =
      well_placed (element_in image i) (element_in image (i + 1))
      (split-none _ (i + 1) _ (rw (elements-cons image (i + 1) h) at (placed i (omega arith)))).0

  -- the joined text of a subtree is one part of the texts
  pub text-under : (i : ℕ) → i < count_n image → text_in image i ++ texts (forest (suc (level_in image i)) (drop (i + 1) (elements_of image))) ≡ between image i (end_in image i)
  unfolding end_in
  text-under i h =
      rw (texts-under (element_in image i) (drop (i + 1) (elements_of image)) (placed i h), joined-between image (count_n image - (i + 1)) (level_in image i) (i + 1) (omega arith))
      (between_next image i (i + 1 + deeper_from image (level_in image i) (i + 1)) (omega arith))

  -- all elements are under the first
  pub root-end : end_in image 0 ≡ count_n image
  root-end = go (dec_lt (end_in image 0) (count_n image))
    where
      go : Dec (end_in image 0 < count_n image) → end_in image 0 ≡ count_n image
      go (no p) = omega (arith, end-in image 0 a.not-empty)
      go (yes p) =
          let q : end_in image 0 - 1 + 1 ≡ end_in image 0 = omega (arith, end-past image 0) in
          let r : 0 < level_in image (end_in image 0) = rw q at (next-placed (end_in image 0 - 1) (omega arith)).under in
          absurd (omega (arith, end-up image 0 p, root-level))

  -- the tree is the first element's, and nothing stands beside it
  pub tree-root : tree_of image ≡ tree (element_in image 0) (forest 1 (drop 1 (elements_of image))) nil
  tree-root =
      let p : forest 0 (drop 1 (elements_of image)) ≡ nil = sym (rw (root-level, root-end, elements-none image (count_n image) refl, forest-none 0) at (forest-past image 0)) in
      rw (elements-cons image 0 a.not-empty, forest-here 0 (element_in image 0) (drop 1 (elements_of image)) root-level, p)

-- ---- children

-- element j as its parent sees it
abbrev pub part_in : List ℕ → ℕ → Part
part_in image j = record { number = j; kind = kind_in image j; text = between image j (end_in image j) }

-- the children of element i from j on
abbrev pub parts_under : List ℕ → ℕ → ℕ → List Part
parts_under image i j = parts (forest (suc (level_in image i)) (drop j (elements_of image)))

module _ {image : List ℕ} (a : Accepted image) where
  pub child-first : (i : ℕ) → i < count_n image → Child image i (i + 1)
  child-first i h =
      let p : i < end_in image i = end-past image i in
      let n : end_in image i ≤ count_n image = end-in image i h in
      record { node = h; behind = omega arith; upto = omega arith; level = λ g. omega (arith, (next-placed a i (omega arith)).near, end-deep image i (i + 1) h (omega arith) g) }

  -- an element is the next tree of its level
  parts_at : (j : ℕ) → j < count_n image → parts (forest (level_in image j) (drop j (elements_of image))) ≡ part_in image j ∷ parts (forest (level_in image j) (drop (end_in image j) (elements_of image)))
  unfolding parts
  parts_at j h = rw (elements-cons image j h, forest-here (level_in image j) (element_in image j) (drop (j + 1) (elements_of image)) refl, text-under a j h, forest-past image j)

  module _ {i j : ℕ} (c : Child image i j) (h : j < end_in image i) where
    within : j < count_n image
    within = omega (arith, end-in image i c.node)

    pub child-next : Child image i (end_in image j)
    child-next =
        let p : j < end_in image j = end-past image j in
        let n : end_in image j ≤ count_n image = end-in image j within in
        let u : end_in image j ≤ end_in image i = end-under image i j c.node c.behind h in
        record {
          node = c.node;
          behind = omega (arith, c.behind);
          upto = u;
          level = λ g. omega (arith, c.level h, end-up image j (omega (arith, end-in image i c.node)), end-deep image i (end_in image j) c.node (omega (arith, c.behind)) g);
        }

    -- a child is the next part
    pub parts-here : parts_under image i j ≡ part_in image j ∷ parts_under image i (end_in image j)
    parts-here = rw (c.level h) at (parts_at j within)

  -- at the end there is none
  pub parts_none : (i : ℕ) → i < count_n image → parts_under image i (end_in image i) ≡ []
  unfolding parts
  parts_none i h = go (dec_lt (end_in image i) (count_n image))
    where
      go : Dec (end_in image i < count_n image) → parts_under image i (end_in image i) ≡ []
      go (yes p) = rw (elements-cons image (end_in image i) p, forest-end (suc (level_in image i)) (element_in image (end_in image i)) (drop (end_in image i + 1) (elements_of image)) (omega (arith, end-up image i p)))
      go (no p) = rw (elements-none image (end_in image i) (omega (arith, end-in image i h)), forest-none (suc (level_in image i)))

-- ---- the same over the index

module _ {image index : List ℕ} (x : Indexed image index) where
  indexed-accepted : Accepted image
  indexed-accepted = accepted image x.passed

  pub kind-at : (i : ℕ) → i < count_n image → kind_at index i ≡ kind_in image i
  kind-at i h = (x.entries.entry i (omega arith) h).kinds

  pub end-at : (i : ℕ) → i < count_n image → end_at index i ≡ end_in image i
  end-at i h = (x.entries.entry i (omega arith) h).ends

  pub start-at : (i : ℕ) → i ≤ count_n image → start_at index i ≡ place_in image i
  start-at i h = go (dec_lt i (count_n image))
    where
      go : Dec (i < count_n image) → start_at index i ≡ place_in image i
      go (yes p) = (x.entries.entry i (omega arith) p).starts
      go (no p) = let q : i ≡ count_n image = omega arith in rw q x.entries.last.starts

  -- the part of the image that the index gives
  pub text_at_lem : (i : ℕ) → i < count_n image → text_at image index i ≡ between image i (end_in image i)
  unfolding text_at
  text_at_lem i h = rw (end-at i h, start-at (end_in image i) (end-in image i h), start-at i (omega arith)) (between-places image i (end_in image i))

  pub part_at_lem : (i : ℕ) → i < count_n image → part_at image index i ≡ part_in image i
  part_at_lem i h = rw (kind-at i h, text_at_lem i h)

  -- behind the last child
  at-end : (i j : ℕ) → Child image i j → end_in image i ≤ j → parts_under image i j ≡ []
  at-end i j c h =
      let q : end_in image i ≡ j = omega (arith, c.upto) in
      rw q at (parts_none indexed-accepted i c.node)

  walked : (f i j : ℕ) → Child image i j → end_in image i ≤ j + f → walk f image index j (end_in image i) ≡ parts_under image i j
  unfolding walk
  walked zero i j c h = sym (at-end i j c (omega arith))
  walked (suc f) i j c h = go (dec_lt j (end_in image i)) (walked f i (end_in image j))
    where
      go : Dec (j < end_in image i) → (Child image i (end_in image j) → end_in image i ≤ end_in image j + f → walk f image index (end_in image j) (end_in image i) ≡ parts_under image i (end_in image j))
          → walk (suc f) image index j (end_in image i) ≡ parts_under image i j
      go (yes p) r =
          let n : j < count_n image = omega (arith, end-in image i c.node) in
          let q : walk f image index (end_in image j) (end_in image i) ≡ parts_under image i (end_in image j) = r (child-next indexed-accepted c p) (omega (arith, end-past image j)) in
          rw (lt-ltb j (end_in image i) p, part_at_lem j n, end-at j n, q) (sym (parts-here indexed-accepted c p))
      go (no p) r = rw (le-ltb j (end_in image i) (omega arith)) (sym (at-end i j c (omega arith)))

  -- the children from j on, by jumps, are those of the tree
  pub parts_from_lem : (i j : ℕ) → Child image i j → parts_from image index j (end_at index i) ≡ parts_under image i j
  unfolding parts_from
  parts_from_lem i j c = rw (end-at i c.node) (walked (end_in image i - j) i j c (omega arith))

  pub children : (i : ℕ) → i < count_n image → parts_from image index (i + 1) (end_at index i) ≡ parts_under image i (i + 1)
  children i h = parts_from_lem i (i + 1) (child-first indexed-accepted i h)

  -- a child's subtree lies within its parent's
  pub child-within : (i j : ℕ) → Child image i j → j < end_at index i → end_at index j ≤ end_at index i
  child-within i j c h =
      let g : j < end_in image i = rw (end-at i c.node) at h in
      rw (end-at i c.node, end-at j (omega (arith, end-in image i c.node))) (end-under image i j c.node c.behind g)

  -- the index is a table of spans of the image
  pub table : Table image index (count_n image)
  table =
      record {
        size = x.entries.room;
        past = λ i h. rw (end-at i h) (end-past image i);
        inside = λ i h. rw (end-at i h) (end-in image i h);
        forward = λ i j h k. rw (start-at i (omega arith), start-at j k) (omega (arith, start_le image i j h));
        few = indexed-accepted.few-elements;
        whole = omega (arith, start-at (count_n image) (omega arith), indexed-accepted.sizes, indexed-accepted.long);
        short = omega (arith, indexed-accepted.few-elements, indexed-accepted.few_bytes, indexed-accepted.sizes, indexed-accepted.long);
      }

  -- the children of element i, from j on, may be walked
  pub region-under : (i j : ℕ) → Child image i j → Region image index j (end_at index i)
  region-under i j c =
      let e : end_in image i ≤ count_n image = end-in image i c.node in
      record { n = count_n image; table = table; begins = omega (arith, c.upto); ends = rw (end-at i c.node) e }

  -- all of them, in the terms of the code: a and b are where the children begin and end
  pub region-of : {a b : ℕ} (i : ℕ) → i < count_n image → a ≡ i + 1 → b ≡ end_at index i → Region image index a b
  region-of i h q r = rw (q, r) (region-under i (i + 1) (child-first indexed-accepted i h))

-- what a caller knows of an image that the tests let pass
pub indexable : {image table : List ℕ} {r : Result code.Accepted Refusal} {a : code.Accepted} → said r ≡ answer image → r ≡ Ok a → a.elements * 3 + 3 ≤ length table → Indexable image table
indexable {image} {table} {r} {a} e h k =
    let p = passing image a.elements a.bytes (rw h at e) in
    record { passed = p.unrefused; room = omega (arith, p.elements) }
