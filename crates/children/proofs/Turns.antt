-- What an element does to a gap, from the tests that the code makes.
use mathlib.Core.Path.{◌≡◌, refl, ◌∙◌, sym}
use mathlib.Core.Bool.{Bool, true, false, cond, ◌&&◌, and-true}
use mathlib.Core.List.{List}
use Prim.Native.Nat.{ℕ, ◌<◌, ◌≤◌}
use native.Mathlib.Omega.{arith}
use lib.Dec.{leb, ltb, eqb}
use borrow.Author.Tests.{le-leb, lt-leb, ltb-true, ltb-false, eqb-true, eqb-false, eq-eqb, ne_eqb}
use Rattle.tree.specs.declared.class.Kinds.{Kinds}
use Rattle.tree.specs.Class.{from, one_of, kinds}
use Rattle.text.specs.Basic.{count}
use Rattle.std.specs.Ordering.{is_le}
use Rattle.std.specs.declared.cmp.Ordering.TheVariants.{Less, Equal, Greater}
use Rattle.std.specs.declared.ops.ControlFlow.TheVariants.{Continue, Break}
use Rattle.children.specs.declared.gap.End.TheVariants as End
use Rattle.children.specs.declared.turn.Go.TheVariants as Go
use Rattle.children.specs.Gaps.{Turn, turn, trivia_turn, other_turn, space_in}
use Rattle.tree.specs.Index.{kind_at, text_at, part_at}
use Rattle.tree.specs.declared.class.Class.TheVariants as Class

-- ---- is_trivia and its like

-- the order of numbers, as `contains` of a range asks it
le_is : (a k : ℕ) → is_le (cond (ltb a k) Less (cond (eqb a k) Equal Greater)) ≡ leb a k
le_is a k = go (ltb a k) refl (eqb a k) refl
  where
    go : (u : Bool) → ltb a k ≡ u → (v : Bool) → eqb a k ≡ v → is_le (cond u Less (cond v Equal Greater)) ≡ leb a k
    go true p v q = sym (le-leb a k (omega (arith, ltb-true a k p)))
    go false p true q = sym (le-leb a k (omega (arith, eqb-true a k q)))
    go false p false q = sym (lt-leb a k (omega (arith, ltb-false a k p, eqb-false a k q)))

-- a class of all kinds from a to b
pub range_is : (a b k : ℕ) → (is_le (cond (ltb a k) Less (cond (eqb a k) Equal Greater)) && is_le (cond (ltb k b) Less (cond (eqb k b) Equal Greater))) ≡ one_of (from a b) k
unfolding one_of
range_is a b k = rw (le_is a k, le_is k b) (sym (and-true (leb a k && leb k b)))

-- ---- space_of, feeds_of

pub space_yes : (i t : List ℕ) (j k n : ℕ) → k ≡ kind_at i j → k ≡ 64 → n ≡ count 10 (text_at t i j) → n ≡ space_in (part_at t i j)
unfolding space_in
space_yes i t j k n e q f = rw (← e, eq-eqb k 64 q) f

pub space_no : (i t : List ℕ) (j k : ℕ) → k ≡ kind_at i j → (k ≡ 64 → ⊥) → 0 ≡ space_in (part_at t i j)
unfolding space_in
space_no i t j k e q = rw (← e, ne_eqb k 64 q)

pub feeds_known : (i t : List ℕ) (j k f : ℕ) → f ≡ space_in (part_at t i j) → k ≡ kind_at i j → k ≡ 64 → f ≡ count 10 (text_at t i j)
unfolding space_in
feeds_known i t j k f p e q = rw (← e, eq-eqb k 64 q) at p

-- what `tallied` requires: only whitespace has line feeds
pub space-none : (i t : List ℕ) (j k f : ℕ) → f ≡ space_in (part_at t i j) → k ≡ kind_at i j → (k ≡ 64 → ⊥) → f ≡ 0
space-none i t j k f p e q = p ∙ sym (space_no i t j k e q)

-- ---- other_turn

pub other-out : (l h : Bool) (k : ℕ) → l ≡ true → h ≡ true → Break End.Last ≡ other_turn l h k
unfolding other_turn
other-out l h k p q = rw (p, q)

pub other-over : (l h : Bool) (k : ℕ) → l ≡ true → h ≡ false → Continue Go.Over ≡ other_turn l h k
unfolding other_turn
other-over l h k p q = rw (p, q)

pub other-skip : (l h s : Bool) (k : ℕ) → l ≡ false → s ≡ one_of (kinds Class.Separator) k → s ≡ true → Continue Go.Skip ≡ other_turn l h k
unfolding other_turn
other-skip l h s k p e q = rw (p, ← e, q)

pub other-foreign : (l h s : Bool) (k : ℕ) → l ≡ false → s ≡ one_of (kinds Class.Separator) k → s ≡ false → Break End.Foreign ≡ other_turn l h k
unfolding other_turn
other-foreign l h s k p e q = rw (p, ← e, q)

-- ---- trivia_turn

pub trivia_started : (i t : List ℕ) (s : Bool) (j : ℕ) → s ≡ true → Continue Go.Wait ≡ trivia_turn s (part_at t i j)
unfolding trivia_turn
trivia_started i t s j p = rw p

single-last : (i t : List ℕ) (s : Bool) (j : ℕ) → s ≡ false → one_of (kinds Class.SingleLine) (kind_at i j) ≡ true → Continue Go.Last ≡ trivia_turn s (part_at t i j)
unfolding trivia_turn
single-last i t s j p q = rw (p, q) (go (leb 1 (count 10 (text_at t i j))))
  where
    go : (b : Bool) → ◌≡◌ {A = Turn} (Continue Go.Last) (cond (b && false) (Continue Go.Wait) (Continue Go.Last))
    go true = refl
    go false = refl

pub trivia-last : (i t : List ℕ) (s u : Bool) (j k : ℕ) → s ≡ false → k ≡ kind_at i j → u ≡ one_of (kinds Class.SingleLine) k → u ≡ true → Continue Go.Last ≡ trivia_turn s (part_at t i j)
trivia-last i t s u j k p e f q = single-last i t s j p (rw (← e) (sym f ∙ q))

pub trivia-breaks : (i t : List ℕ) (s u : Bool) (j k n : ℕ) → s ≡ false → k ≡ kind_at i j → u ≡ one_of (kinds Class.SingleLine) k → u ≡ false → n ≡ count 10 (text_at t i j) → 1 ≤ n → Continue Go.Wait ≡ trivia_turn s (part_at t i j)
unfolding trivia_turn
trivia-breaks i t s u j k n p e f q g h = rw (p, ← e, ← f, q, ← g, le-leb 1 n h)

pub trivia-inline : (i t : List ℕ) (s u : Bool) (j k n : ℕ) → s ≡ false → k ≡ kind_at i j → u ≡ one_of (kinds Class.SingleLine) k → u ≡ false → n ≡ count 10 (text_at t i j) → n < 1 → Continue Go.Inline ≡ trivia_turn s (part_at t i j)
unfolding trivia_turn
trivia-inline i t s u j k n p e f q g h = rw (p, ← e, ← f, q, ← g, lt-leb 1 n h)

-- ---- turn_of

module _ (i t : List ℕ) (w : Kinds) (l s h : Bool) (j : ℕ) where
  pub turn-child : (k : ℕ) (a : Bool) → k ≡ kind_at i j → a ≡ one_of w k → a ≡ true → Break End.Child ≡ turn w l s h (part_at t i j)
  unfolding turn
  turn-child k a e f q = rw (← e, ← f, q)

  pub turn-trivia : (k : ℕ) (a b : Bool) (r : Turn) → k ≡ kind_at i j → a ≡ one_of w k → a ≡ false → b ≡ one_of (kinds Class.Trivia) k → b ≡ true → r ≡ trivia_turn s (part_at t i j) → r ≡ turn w l s h (part_at t i j)
  unfolding turn
  turn-trivia k a b r e f q g p z = rw (← e, ← f, q, ← g, p) (rw (← e) at z)

  pub turn-error : (k : ℕ) (a b d : Bool) → k ≡ kind_at i j → a ≡ one_of w k → a ≡ false → b ≡ one_of (kinds Class.Trivia) k → b ≡ false → d ≡ one_of (kinds Class.CustomError) k → d ≡ true → Continue Go.Error ≡ turn w l s h (part_at t i j)
  unfolding turn
  turn-error k a b d e f q g p m o = rw (← e, ← f, q, ← g, p, ← m, o)

  pub turn-other : (k : ℕ) (a b d : Bool) (r : Turn) → k ≡ kind_at i j → a ≡ one_of w k → a ≡ false → b ≡ one_of (kinds Class.Trivia) k → b ≡ false → d ≡ one_of (kinds Class.CustomError) k → d ≡ false → r ≡ other_turn l h k → r ≡ turn w l s h (part_at t i j)
  unfolding turn
  turn-other k a b d r e f q g p m o z = rw (← e, ← f, q, ← g, p, ← m, o) z
