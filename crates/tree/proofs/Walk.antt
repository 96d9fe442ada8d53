-- What a walk over the elements of an image meets: the forest one element at a time, and its joined text.
use mathlib.Core.Path.{◌≡◌, refl, ◌∙◌, sym}
use mathlib.Core.Bool.{Bool, true, false, cond, ◌&&◌}
use mathlib.Core.Option.{none}
use mathlib.Core.List.{List, [], ◌∷◌, ◌++◌, append_assoc}
use Prim.Native.Nat.{ℕ, suc, ◌+◌, ◌≤◌, ◌<◌}
use native.Mathlib.Omega.{arith}
use lib.Dec.{eqb, ltb}
use lib.ListN.{drop}
use borrow.Author.Tests.{lt-ltb, le-ltb, eq-eqb, ne_eqb, ltb-true, ltb-false, eqb-false}
use Rattle.tree.specs.Tree.{Element, nil, tree, forest, texts}
use Rattle.tree.specs.Refusal.{is_token, misplaced, misplaced_after}
use Rattle.tree.proofs.FirstWhere.{split-none}
use Rattle.tree.proofs.Passing.{or_false}
use Rattle.tree.specs.Index.{deeper}

-- no element, no tree
pub forest-none : (m : ℕ) → forest m [] ≡ nil
unfolding forest
forest-none m = refl

-- an element above level m ends the forest
pub forest-end : (m : ℕ) (e : Element) (es : List Element) → e.level < m → forest m (e ∷ es) ≡ nil
unfolding forest
forest-end m e es h = rw (lt-ltb e.level m h)

-- an element at level m is the next tree
pub forest-here : (m : ℕ) (e : Element) (es : List Element) → e.level ≡ m → forest m (e ∷ es) ≡ tree e (forest (suc m) es) (forest m es)
unfolding forest
forest-here m e es h = rw (le-ltb e.level m (omega arith), eq-eqb e.level m h)

-- an element below level m belongs to a tree before it
pub forest-below : (m : ℕ) (e : Element) (es : List Element) → m < e.level → forest m (e ∷ es) ≡ forest m es
unfolding forest
forest-below m e es h = rw (le-ltb e.level m (omega arith), ne_eqb e.level m (omega arith))

-- and so do all that come first
pub forest-skip : (m : ℕ) (es : List Element) → forest m (drop (deeper m es) es) ≡ forest m es
unfolding deeper
forest-skip m [] = refl
forest-skip m (e ∷ es) = go (ltb m e.level) refl (forest-skip m es)
  where
    go : (b : Bool) → ltb m e.level ≡ b → forest m (drop (deeper m es) es) ≡ forest m es → forest m (drop (cond b (suc (deeper m es)) 0) (e ∷ es)) ≡ forest m (e ∷ es)
    go true q f = f ∙ sym (forest-below m e es (ltb-true m e.level q))
    go false q f = refl

-- ---- no level is skipped on the way down

-- An element behind another that is where it may be.
pub record Placed (before e : Element) : Type 0 where
  pub other : e.kind ≡ 1 → ⊥
  pub under : 0 < e.level
  pub depth : e.level ≤ 200
  pub near : e.level ≤ before.level + 1
  pub leaf : (is_token before && ltb before.level e.level) ≡ false

pub well_placed : (before e : Element) → misplaced before e ≡ false → Placed before e
unfolding misplaced
well_placed before e h =
    let (a, p) = or_false (eqb e.kind 1) _ h in
    let (b, q) = or_false (eqb e.level 0) _ p in
    let (c, r) = or_false (ltb 200 e.level) _ q in
    let (d, s) = or_false (ltb (before.level + 1) e.level) _ r in
    let z : e.level ≡ 0 → ⊥ = eqb-false e.level 0 b in
    record { other = eqb-false e.kind 1 a; under = omega arith; depth = ltb-false 200 e.level c; near = ltb-false (before.level + 1) e.level d; leaf = s }

misplaced-next : (before e : Element) (es : List Element) → misplaced_after before (e ∷ es) ≡ none → (misplaced before e ≡ false) × (misplaced_after e es ≡ none)
unfolding misplaced_after
misplaced-next before e es h = split-none (misplaced before e) e.number (misplaced_after e es) h

none-deeper : (before : Element) (es : List Element) → misplaced_after before es ≡ none → deeper (suc before.level) es ≡ 0
unfolding deeper
none-deeper before [] h = refl
none-deeper before (e ∷ es) h = rw (le-ltb (suc before.level) e.level (omega (arith, (well_placed before e (misplaced-next before e es h).0).near)))

-- ---- the joined text

-- the texts of the first elements, up to one above level m
unfoldable pub joined : ℕ → List Element → List ℕ
joined m [] = []
joined m (e ∷ es) = cond (ltb e.level m) [] (e.text ++ joined m es)

-- the deeper elements come first
joined-split : (m : ℕ) (es : List Element) → joined m es ≡ joined (suc m) es ++ joined m (drop (deeper m es) es)
unfolding joined deeper
joined-split m [] = refl
joined-split m (e ∷ es) = go (ltb m e.level) refl (joined-split m es)
  where
    go : (b : Bool) → ltb m e.level ≡ b → joined m es ≡ joined (suc m) es ++ joined m (drop (deeper m es) es)
        → joined m (e ∷ es) ≡ joined (suc m) (e ∷ es) ++ joined m (drop (cond b (suc (deeper m es)) 0) (e ∷ es))
    go true q f =
        let h : m < e.level = ltb-true m e.level q in
        rw (le-ltb e.level m (omega arith), le-ltb e.level (suc m) (omega arith), f) (sym (append_assoc e.text (joined (suc m) es) (joined m (drop (deeper m es) es))))
    go false q f = rw (lt-ltb e.level (suc m) (omega (arith, ltb-false m e.level q)))

-- a forest's text is that of its elements in their order
texts-joined : (m : ℕ) (before : Element) (es : List Element) → misplaced_after before es ≡ none → texts (forest m es) ≡ joined m (drop (deeper m es) es)
unfolding texts joined deeper
texts-joined m before [] h = rw (forest-none m)
texts-joined m before (e ∷ es) h =
    let n : misplaced_after e es ≡ none = (misplaced-next before e es h).1 in
    go (none-deeper e es n) (ltb m e.level) refl (ltb e.level m) refl (texts-joined m e es n) (texts-joined (suc m) e es n)
  where
    go : deeper (suc e.level) es ≡ 0 → (b : Bool) → ltb m e.level ≡ b → (d : Bool) → ltb e.level m ≡ d
        → texts (forest m es) ≡ joined m (drop (deeper m es) es) → texts (forest (suc m) es) ≡ joined (suc m) (drop (deeper (suc m) es) es)
        → texts (forest m (e ∷ es)) ≡ joined m (drop (cond b (suc (deeper m es)) 0) (e ∷ es))
    go z true q d r f g = rw (forest-below m e es (ltb-true m e.level q)) f
    go z false q true r f g = rw (forest-end m e es (ltb-true e.level m r), r)
    go z false q false r f g =
        let l : e.level ≡ m = omega (arith, ltb-false m e.level q, ltb-false e.level m r) in
        let y : deeper (suc m) es ≡ 0 = rw l at z in
        let k : texts (forest (suc m) es) ≡ joined (suc m) es = rw y at g in
        rw (forest-here m e es l, r, f, k, joined-split m es)

-- the children's text of an element that none behind is misplaced after
pub texts-under : (e : Element) (es : List Element) → misplaced_after e es ≡ none → texts (forest (suc e.level) es) ≡ joined (suc e.level) es
texts-under e es h = rw (none-deeper e es h) at (texts-joined (suc e.level) e es h)
