-- A reading by its gaps is the reading by its elements, and its sums are those of its gaps.
use mathlib.Core.Path.{◌≡◌, refl, ap, ◌∙◌, sym}
use mathlib.Core.Bool.{Bool, true, false, cond, ◌||◌}
use mathlib.Core.Option.{none, some}
use mathlib.Core.List.{List, [], ◌∷◌, ◌++◌, append_assoc}
use Prim.Native.Nat.{ℕ, suc, ◌+◌}
use native.Mathlib.Omega.{arith}
use lib.Dec.{leb}
use lib.ListN.{length}
use Rattle.tree.specs.declared.class.Kinds.{Kinds}
use Rattle.tree.specs.Class.{is, kinds, one_of}
use Rattle.text.specs.Basic.{any}
use Rattle.tree.specs.Tree.{Part}
use Rattle.std.specs.declared.ops.ControlFlow.TheVariants.{Continue, Break}
use Rattle.children.specs.declared.gap.End.TheVariants as End
use Rattle.children.specs.declared.turn.Go.TheVariants as Go
use Rattle.children.specs.Reading.{Child, Reading, foreign, read, pass, start, any_many_lines}
use Rattle.children.specs.Gaps.{Gaps, stopped, ending, widen, gaps, turn, trivia_turn, other_turn, newlines_at, Sums, foreign_at, sums, gap_sums}
use Rattle.children.proofs.Glue.{glued, passing, start-gaps}
use Rattle.tree.specs.declared.class.Class.{Class}
use Rattle.children.specs.Gaps as G
use Rattle.children.specs.Whole.{child_at, closed_by, preceded, read_from, reading_of, sums_of}

-- the inline trivia of the first gap
abbrev first_inline : Gaps → List Part
first_inline (stopped g n) = g.inline
first_inline (ending g) = g.inline
first_inline (Gaps.child g x gs) = g.inline

widen-bare : (ws : List Part) (gs : Gaps) → first_inline gs ≡ [] → first_inline (widen [] ws gs) ≡ []
unfolding widen
widen-bare ws (stopped g n) h = h
widen-bare ws (ending g) h = h
widen-bare ws (Gaps.child g x gs) h = h

turn-bare : (w : Kinds) (l h : Bool) (x : Part) (go : Bool → Bool → Gaps) → ((h : Bool) → first_inline (go true h) ≡ []) → first_inline (G.turned (turn w l true h x) x true h go) ≡ []
unfolding turn trivia_turn other_turn
turn-bare w l h x go f = pick (one_of w x.kind) (is Class.Trivia x) (is Class.CustomError x) (is Class.Separator x) l h
  where
    pick : (a b d e l h : Bool) → first_inline (G.turned (cond a (Break End.Child) (cond b (Continue Go.Wait) (cond d (Continue Go.Error) (cond l (cond h (Break End.Last) (Continue Go.Over)) (cond e (Continue Go.Skip) (Break End.Foreign)))))) x true h go) ≡ []
    pick true b d e l h = refl
    pick false true d e l h = widen-bare (x ∷ []) (go true true) (f true)
    pick false false true e l h = widen-bare (x ∷ []) (go true h) (f h)
    pick false false false e true true = refl
    pick false false false e true false = widen-bare [] (go true false) (f false)
    pick false false false true false h = widen-bare [] (go true h) (f h)
    pick false false false false false h = refl

gaps-bare : (w : Kinds) (l : Bool) (xs : List Part) (h : Bool) → first_inline (gaps w l true h xs) ≡ []
unfolding gaps
gaps-bare w l [] h = refl
gaps-bare w l (x ∷ xs) h = turn-bare w l h x (λ s h. gaps w l s h xs) (gaps-bare w l xs)

preceded-both : (cs ds : List Child) (r : Reading) → preceded (cs ++ ds) r ≡ preceded cs (preceded ds r)
preceded-both cs ds (foreign n) = refl
preceded-both cs ds (read es e) = rw (append_assoc cs ds es)

-- from a child on
pub glued-from : (gs : Gaps) (ds : List Child) (c : Child) (s h : Bool) → c.inline ≡ [] → glued (passing ds (some c) [] s h) gs ≡ preceded ds (read_from c gs)
unfolding glued read_from
glued-from (stopped g n) ds c s h e = refl
glued-from (ending g) ds c s h e = rw e
glued-from (Gaps.child g x gs) ds c s h e = rw e (glued-from gs (ds ++ closed_by c g ∷ []) (child_at g x) false true refl ∙ preceded-both ds (closed_by c g ∷ []) (read_from (child_at g x) gs))

-- no children in front
pub preceded-none : (r : Reading) → preceded [] r ≡ r
preceded-none (foreign n) = refl
preceded-none (read cs e) = refl

glued-start : (gs : Gaps) → first_inline gs ≡ [] → glued (start none) gs ≡ reading_of gs
unfolding glued reading_of
glued-start (stopped g n) e = refl
glued-start (ending g) e = rw e
glued-start (Gaps.child g x gs) e = rw e (glued-from gs [] _ false true refl ∙ preceded-none _)

-- A reading with no trailing list is the reading of its gaps.
pub whole : (wanted : Class) (loose : Bool) (xs : List Part) → pass wanted loose xs (start none) ≡ reading_of (gaps (kinds wanted) loose true false xs)
whole wanted loose xs = start-gaps wanted loose xs ∙ glued-start (gaps (kinds wanted) loose true false xs) (gaps-bare (kinds wanted) loose xs false)

or_assoc : (a b c : Bool) → ((a || b) || c) ≡ (a || (b || c))
or_assoc true b c = refl
or_assoc false b c = refl

-- a reading's sums, with k children in front
abbrev shifted : ℕ → Bool → Sums → Sums
shifted k m (foreign_at n) = foreign_at n
shifted k m (sums j q b t) = sums (k + j) (m || q) b t

one_more : (k : ℕ) → suc k ≡ k + 1
one_more k = omega arith

or_false : (a : Bool) → (a || false) ≡ a
or_false true = refl
or_false false = refl

same-sums : (k j : ℕ) (m q b : Bool) (t : List Part) → k ≡ j → m ≡ q → sums k m b t ≡ sums j q b t
same-sums k j m q b t e f = rw (e, f)

sums-preceded : (c : Child) (r : Reading) → sums_of (preceded (c ∷ []) r) ≡ shifted 1 c.many_lines (sums_of r)
unfolding sums_of any
sums-preceded c (foreign n) = refl
sums-preceded c (read cs e) = same-sums (length (c ∷ cs)) (1 + length cs) (c.many_lines || any_many_lines cs) (c.many_lines || any_many_lines cs) e.blank_line e.trivia (omega arith) refl

shifted-both : (k j : ℕ) (m q : Bool) (r : Sums) → shifted k m (shifted j q r) ≡ shifted (k + j) (m || q) r
shifted-both k j m q (foreign_at n) = refl
shifted-both k j m q (sums i p b t) = same-sums (k + (j + i)) (k + j + i) (m || (q || p)) ((m || q) || p) b t (omega arith) (sym (or_assoc m q p))

sums-from : (gs : Gaps) (c : Child) (k : ℕ) (m : Bool) → gap_sums (suc k) (m || c.many_lines) gs ≡ shifted k m (sums_of (read_from c gs))
unfolding gap_sums read_from sums_of any
sums-from (stopped g n) c k m = refl
sums-from (ending g) c k m = same-sums (suc k) (k + 1) (m || c.many_lines) (m || (c.many_lines || false)) (leb 2 (newlines_at g)) g.waiting (omega arith) (rw (or_false c.many_lines))
sums-from (Gaps.child g x gs) c k m =
    sums-from gs (child_at g x) (suc k) (m || c.many_lines)
    ∙ ap (λ (j : ℕ). shifted j (m || c.many_lines) (sums_of (read_from (child_at g x) gs))) (one_more k)
    ∙ sym (shifted-both k 1 m c.many_lines (sums_of (read_from (child_at g x) gs)))
    ∙ ap (shifted k m) (sym (sums-preceded (closed_by c g) (read_from (child_at g x) gs)))

shifted_none : (r : Sums) → shifted 0 false r ≡ r
shifted_none (foreign_at n) = refl
shifted_none (sums k m b t) = same-sums (0 + k) k m m b t (omega arith) refl

-- from the first child on
pub first-sums : (c : Child) (gs : Gaps) → gap_sums 1 c.many_lines gs ≡ sums_of (read_from c gs)
first-sums c gs = sums-from gs c 0 false ∙ shifted_none (sums_of (read_from c gs))

-- The survey of a reading's gaps is the survey of the reading.
pub whole-sums : (gs : Gaps) → gap_sums 0 false gs ≡ sums_of (reading_of gs)
unfolding gap_sums reading_of sums_of any
whole-sums (stopped g n) = refl
whole-sums (ending g) = refl
whole-sums (Gaps.child g x gs) = first-sums (child_at g x) gs
