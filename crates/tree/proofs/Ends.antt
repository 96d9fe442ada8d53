-- Where the subtree of an element ends.
use mathlib.Core.Path.{◌≡◌, refl}
use mathlib.Core.Bool.{Bool, true, false, cond}
use mathlib.Core.List.{List, [], ◌∷◌}
use Prim.Native.Nat.{ℕ, zero, suc, ◌+◌, ◌-◌, ◌<◌, ◌≤◌}
use native.Mathlib.Omega.{arith}
use native.Mathlib.Decide.{dec_lt}
use lib.Dec.{ltb}
use lib.ListN.{length, drop, length-drop}
use lib.Seq.{drop-drop}
use borrow.Author.Tests.{lt-ltb, le-ltb, ltb-true}
use Rattle.tree.specs.Tree.{Element, count_n, elements_of}
use Rattle.tree.specs.Image.{level_in}
use Rattle.tree.specs.Index.{deeper, end_in}
use Rattle.tree.proofs.Elements.{elements-cons, elements-none, elements-count}

-- elements deeper than m come first among those deeper than l, where l is above m
pub deeper-skip : (l m : ℕ) (es : List Element) → l ≤ m → deeper l es ≡ deeper m es + deeper l (drop (deeper m es) es)
unfolding deeper
deeper-skip l m [] h = refl
deeper-skip l m (e ∷ es) h = go (ltb m e.level) refl (deeper-skip l m es h)
  where
    go : (b : Bool) → ltb m e.level ≡ b → deeper l es ≡ deeper m es + deeper l (drop (deeper m es) es)
        → deeper l (e ∷ es) ≡ cond b (suc (deeper m es)) 0 + deeper l (drop (cond b (suc (deeper m es)) 0) (e ∷ es))
    go true q f = rw (lt-ltb l e.level (omega (arith, ltb-true m e.level q))) (omega arith)
    go false q f = omega arith

pub deeper_le : (l : ℕ) (es : List Element) → deeper l es ≤ length es
unfolding deeper
deeper_le l [] = omega arith
deeper_le l (e ∷ es) = go (ltb l e.level) (deeper_le l es)
  where
    go : (b : Bool) → deeper l es ≤ length es → cond b (suc (deeper l es)) 0 ≤ suc (length es)
    go true h = omega arith
    go false h = omega arith

-- how many elements from number j on are deeper than l
abbrev pub deeper_from : List ℕ → ℕ → ℕ → ℕ
deeper_from image l j = deeper l (drop j (elements_of image))

module _ (image : List ℕ) where
  pub deeper-here : (l j : ℕ) → j < count_n image → l < level_in image j → deeper_from image l j ≡ suc (deeper_from image l (j + 1))
  unfolding deeper
  deeper-here l j h k = rw (elements-cons image j h, lt-ltb l (level_in image j) k)

  pub deeper-not : (l j : ℕ) → j < count_n image → level_in image j ≤ l → deeper_from image l j ≡ 0
  unfolding deeper
  deeper-not l j h k = rw (elements-cons image j h, le-ltb l (level_in image j) k)

  pub deeper-over : (l : ℕ) → deeper_from image l (count_n image) ≡ 0
  unfolding deeper
  deeper-over l = rw (elements-none image (count_n image) refl)

  -- an element deeper than l, and its subtree
  pub deeper-jump : (l j : ℕ) → j < count_n image → l < level_in image j → j + deeper_from image l j ≡ end_in image j + deeper_from image l (end_in image j)
  unfolding end_in
  deeper-jump l j h k =
      let d = deeper_from image (level_in image j) (j + 1) in
      let s : deeper_from image l (j + 1) ≡ d + deeper_from image l (j + 1 + d) = rw drop-drop at (deeper-skip l (level_in image j) (drop (j + 1) (elements_of image)) (omega arith)) in
      omega (arith, deeper-here l j h k, s)

  -- the elements counted are deeper; c is how many are left
  deep : (c l a k : ℕ) → count_n image ≡ a + c → a ≤ k → k < a + deeper_from image l a → l < level_in image k
  deep zero l a k e h g =
      let q : a ≡ count_n image = omega arith in
      absurd (omega (arith, rw (← q) at (deeper-over l)))
  deep (suc c) l a k e h g = go (dec_lt l (level_in image a)) (dec_lt a k) (deep c l (a + 1) k (omega arith))
    where
      go : Dec (l < level_in image a) → Dec (a < k) → (a + 1 ≤ k → k < a + 1 + deeper_from image l (a + 1) → l < level_in image k) → l < level_in image k
      go (yes p) (yes q) f = f (omega arith) (omega (arith, deeper-here l a (omega arith) p))
      go (yes p) (no q) f = let r : k ≡ a = omega arith in rw r p
      go (no p) d f = absurd (omega (arith, deeper-not l a (omega arith) (omega arith)))

  -- the element behind them is not
  stops : (c l a : ℕ) → count_n image ≡ a + c → a + deeper_from image l a < count_n image → level_in image (a + deeper_from image l a) ≤ l
  stops zero l a e g = absurd (omega arith)
  stops (suc c) l a e g = go (dec_lt l (level_in image a)) (stops c l (a + 1) (omega arith))
    where
      go : Dec (l < level_in image a) → (a + 1 + deeper_from image l (a + 1) < count_n image → level_in image (a + 1 + deeper_from image l (a + 1)) ≤ l) → level_in image (a + deeper_from image l a) ≤ l
      go (yes p) f =
          let r : a + deeper_from image l a ≡ a + 1 + deeper_from image l (a + 1) = omega (arith, deeper-here l a (omega arith) p) in
          rw r (f (omega arith))
      go (no p) f =
          let r : a + deeper_from image l a ≡ a = omega (arith, deeper-not l a (omega arith) (omega arith)) in
          rw r (omega arith)

  pub end-past : (i : ℕ) → i < end_in image i
  unfolding end_in
  end-past i = omega arith

  pub end-in : (i : ℕ) → i < count_n image → end_in image i ≤ count_n image
  unfolding end_in
  end-in i h = omega (arith, deeper_le (level_in image i) (drop (i + 1) (elements_of image)), length-drop (i + 1) (elements_of image), elements-count image)

  -- what lies before the end is deeper
  pub end-deep : (i k : ℕ) → i < count_n image → i < k → k < end_in image i → level_in image i < level_in image k
  unfolding end_in
  end-deep i k n h g = deep (count_n image - (i + 1)) (level_in image i) (i + 1) k (omega arith) (omega arith) g

  -- what stands at the end is not
  pub end-up : (i : ℕ) → end_in image i < count_n image → level_in image (end_in image i) ≤ level_in image i
  unfolding end_in
  end-up i h = stops (count_n image - (i + 1)) (level_in image i) (i + 1) (omega arith) h

  -- a child's subtree ends within its parent's: as every deeper element's in it
  pub end-under : (i j : ℕ) → i < count_n image → i < j → j < end_in image i → end_in image j ≤ end_in image i
  end-under i j n h g = go (dec_lt (end_in image i) (end_in image j))
    where
      go : Dec (end_in image i < end_in image j) → end_in image j ≤ end_in image i
      go (no p) = omega arith
      go (yes p) =
          let e : end_in image j ≤ count_n image = end-in j (omega (arith, end-in i n)) in
          absurd (omega (arith, end-deep i j n h g, end-up i (omega arith), end-deep j (end_in image i) (omega arith) g p))
