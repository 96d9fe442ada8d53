-- A reading as what stands before, between and behind its children: one gap a child, and one at the end.
use Rattle.std.specs.Prelude.{Bool, true, false, cond, not, ◌&&◌, ◌||◌, List, [], ◌∷◌, ◌++◌, reverse, ℕ, suc, ◌+◌, leb, eqb}
use Rattle.text.specs.Basic.{count}
use Rattle.tree.specs.Tree.{Part}
use Rattle.tree.specs.declared.class.Kinds.{Kinds}
use Rattle.tree.specs.Class.{is, one_of, of_kind}
use Rattle.std.specs.declared.ops.ControlFlow.{ControlFlow}
use Rattle.std.specs.declared.ops.ControlFlow.TheVariants.{Continue, Break}
use Rattle.children.specs.declared.gap.End.{End}
use Rattle.children.specs.declared.turn.Go.{Go}
use Rattle.children.specs.Reading.{newlines_before, newlines_back}
use Rattle.tree.specs.declared.class.Class.TheVariants as Class

-- What one element does to a gap: the gap goes on, or ends at a child, at the end of a loose reading, at a foreign element.
abbrev pub Turn : Type 0
Turn = ControlFlow End Go

-- trivia that holds a newline and is no single-line comment
abbrev pub breaks : Part → Bool
breaks x = leb 1 (count 10 x.text) && not (is Class.SingleLine x)

-- trivia: 'inline until a trivia holding a newline that is no single-line comment (that one waits too) or until just after a single-line comment'
unfoldable pub trivia_turn : Bool → Part → Turn
trivia_turn started x = cond (started || breaks x) (Continue Go.Wait) (cond (is Class.SingleLine x) (Continue Go.Last) (Continue Go.Inline))

-- any other element: a loose reading 'ends if a child or trivia came before, else goes on'; 'A strict reading skips only `,` and `;`'
unfoldable pub other_turn : Bool → Bool → ℕ → Turn
other_turn loose had k = cond loose (cond had (Break End.Last) (Continue Go.Over)) (cond (of_kind Class.Separator k) (Continue Go.Skip) (Break End.Foreign))

-- what an element does, by its class
unfoldable pub turn : Kinds → Bool → Bool → Bool → Part → Turn
turn wanted loose started had x =
    cond (one_of wanted x.kind) (Break End.Child)
    (cond (is Class.Trivia x) (trivia_turn started x)
    (cond (is Class.CustomError x) (Continue Go.Error)
    (other_turn loose had x.kind)))

-- A gap: inline trivia of the child before it, what waits for the child behind it, and whether a child or trivia came so far.
pub record Gap : Type 0 where
  pub inline : List Part
  pub waiting : List Part
  pub had : Bool

-- a gap of these lists
abbrev pub gap_of : List Part → List Part → Bool → Gap
gap_of is ws had = record { inline = is; waiting = ws; had = had }

-- the sum in should_start_with_newline, at a gap: 'A sum of 2 or more asks for a blank line; 1 or more triggers many lines'
abbrev pub newlines_at : Gap → ℕ
newlines_at g = newlines_before g.waiting + newlines_back (reverse g.inline)

-- a gap without its inline trivia
abbrev pub bare : Gap → Gap
bare g = gap_of [] g.waiting g.had

-- A reading's gaps: a foreign element stops it behind a gap; it ends behind a last gap; or a gap, a child, and the gaps behind it.
pub data Gaps : Type 0 where
  stopped : Gap → ℕ → Gaps
  ending : Gap → Gaps
  child : Gap → Part → Gaps → Gaps

-- a gap with more in front
abbrev pub widened : List Part → List Part → Gap → Gap
widened is ws g = record { inline = is ++ g.inline; waiting = ws ++ g.waiting; had = g.had }

-- gaps with more in front of the first
unfoldable pub widen : List Part → List Part → Gaps → Gaps
widen is ws (stopped g n) = stopped (widened is ws g) n
widen is ws (ending g) = ending (widened is ws g)
widen is ws (child g x gs) = child (widened is ws g) x gs

-- all is to wait from here on
abbrev pub started_after : Go → Bool → Bool
started_after Go.Inline s = s
started_after Go.Last s = true
started_after Go.Wait s = true
started_after Go.Error s = s
started_after Go.Skip s = s
started_after Go.Over s = true

-- a child or trivia came
abbrev pub had_after : Go → Bool → Bool
had_after Go.Inline h = true
had_after Go.Last h = true
had_after Go.Wait h = true
had_after Go.Error h = h
had_after Go.Skip h = h
had_after Go.Over h = h

-- what an element adds to the gap's inline trivia
abbrev pub adds_inline : Go → Part → List Part
adds_inline Go.Inline x = x ∷ []
adds_inline Go.Last x = x ∷ []
adds_inline Go.Wait x = []
adds_inline Go.Error x = []
adds_inline Go.Skip x = []
adds_inline Go.Over x = []

-- what an element adds to what waits
abbrev pub adds_waiting : Go → Part → List Part
adds_waiting Go.Inline x = []
adds_waiting Go.Last x = []
adds_waiting Go.Wait x = x ∷ []
adds_waiting Go.Error x = x ∷ []
adds_waiting Go.Skip x = []
adds_waiting Go.Over x = []

-- the gaps from g on, by what ends it: the child x, with the gaps behind it; the end of the reading; the foreign element x
abbrev pub ended_by : End → Gap → Part → Gaps → Gaps
ended_by End.Child g x gs = child g x gs
ended_by End.Last g x gs = ending g
ended_by End.Foreign g x gs = stopped g x.number

-- one element, and the gaps that follow from a state
abbrev pub turned : Turn → Part → Bool → Bool → (Bool → Bool → Gaps) → Gaps
turned (Continue t) x s h go = widen (adds_inline t x) (adds_waiting t x) (go (started_after t s) (had_after t h))
turned (Break e) x s h go = ended_by e (gap_of [] [] h) x (go false true)

-- the gaps of a reading; `started`: trivia waits already; `had`: a child or trivia came before
unfoldable pub gaps : Kinds → Bool → Bool → Bool → List Part → Gaps
gaps wanted loose started had [] = ending (gap_of [] [] had)
gaps wanted loose started had (x ∷ xs) = turned (turn wanted loose started had x) x started had (λ s h. gaps wanted loose s h xs)

-- the last gap of a reading
unfoldable pub last_gap : Gaps → Gap
last_gap (stopped g n) = g
last_gap (ending g) = g
last_gap (child g x gs) = last_gap gs

-- the cut goes on with the element: inline trivia, and all but waiting trivia while nothing waits
abbrev pub follows : Go → Bool → Bool
follows Go.Inline s = true
follows Go.Last s = true
follows Go.Wait s = false
follows Go.Error s = not s
follows Go.Skip s = not s
follows Go.Over s = false

-- a child ends it
abbrev pub is_child : End → Bool
is_child End.Child = true
is_child End.Last = false
is_child End.Foreign = false

-- a foreign element ends it
abbrev pub is_foreign : End → Bool
is_foreign End.Child = false
is_foreign End.Last = false
is_foreign End.Foreign = true

-- the line feeds of whitespace, 0 of another element
unfoldable pub space_in : Part → ℕ
space_in x = cond (eqb x.kind 64) (count 10 x.text) 0

-- What a reading comes to: the foreign element, or how many children, whether one triggers many lines, whether a blank
-- line is asked for behind them, and what waits there.
pub data Sums : Type 0 where
  foreign_at : ℕ → Sums
  sums : ℕ → Bool → Bool → List Part → Sums

-- what gaps come to, behind k children, of which one triggers many lines or none
unfoldable pub gap_sums : ℕ → Bool → Gaps → Sums
gap_sums k m (stopped g n) = foreign_at n
gap_sums k m (ending g) = sums k m (leb 2 (newlines_at g)) g.waiting
gap_sums k m (child g x gs) = gap_sums (suc k) (m || leb 1 (newlines_at g)) gs

-- what ends the last gap of a reading that comes to this
abbrev pub end_of : Sums → End
end_of (foreign_at n) = End.Foreign
end_of (sums k m b ts) = End.Last
