-- The first gap of a reading that is handed a trailing list: trivia is passed over, and an error bars the first child.
use Rattle.std.specs.Prelude.{◌≡◌, Bool, true, false, cond, List, [], ◌∷◌, ℕ, ◌<◌, leb}
use Rattle.std.proofs.Math.Option.{none}
use Rattle.tree.specs.declared.class.Kinds.{Kinds}
use Rattle.children.specs.declared.gap.End.TheVariants as End
use Rattle.children.specs.declared.gap.Span.{Span}
use Rattle.children.specs.declared.turn.Go.{Go}
use Rattle.std.specs.declared.ops.ControlFlow.TheVariants.{Continue, Break}
use Rattle.children.specs.declared.survey.Outline.{Outline}
use Rattle.text.specs.Basic.{is_nil}
use Rattle.tree.specs.Tree.{Part}
use Rattle.children.specs.Reading.{Child, Reading, foreign, read, newlines}
use Rattle.children.specs.Gaps.{Turn, Gap, gap_of, bare, Gaps, stopped, ending, widen, gaps, last_gap, turn, ended_by}
use Rattle.tree.specs.Index.{Region, parts_from, part_at, end_at}
use Rattle.children.specs.Spans.{Lies, gap_at, Outlines}
use Rattle.children.specs.Whole.{read_from, ending_at, sums_of}

-- an error waits
abbrev pub adds_error : Go → Part → List Part
adds_error Go.Inline x = []
adds_error Go.Last x = []
adds_error Go.Wait x = []
adds_error Go.Error x = x ∷ []
adds_error Go.Skip x = []
adds_error Go.Over x = []

-- one element, the gaps from the next on, and those behind a child
abbrev pub led_by : Turn → Part → Gaps → Gaps → Gaps
led_by (Continue t) x on behind = widen [] (adds_error t x) on
led_by (Break e) x on behind = ended_by e (gap_of [] [] false) x behind

-- the gaps of a reading with a trailing list
unfoldable pub leads : Kinds → Bool → List Part → Gaps
leads w loose [] = ending (gap_of [] [] false)
leads w loose (x ∷ xs) = led_by (turn w loose true false x) x (leads w loose xs) (gaps w loose false true xs)

-- the first child, with the trailing list before it
abbrev pub child_after : List Part → Part → Child
child_after ts x = record { blank_line = false; many_lines = leb 1 (newlines none ts); before = ts; value = x; inline = [] }

-- the reading that such gaps make
unfoldable pub reading_after : List Part → Gaps → Reading
reading_after ts (stopped g n) = foreign n
reading_after ts (ending g) = read [] (ending_at g)
reading_after ts (Gaps.child g x gs) = cond (is_nil g.waiting) (read_from (child_after ts x) gs) (foreign x.number)

-- the last gap of such a reading: the first, where an error bars the child
unfoldable pub last_after : Gaps → Gap
last_after (stopped g n) = g
last_after (ending g) = g
last_after (Gaps.child g x gs) = cond (is_nil g.waiting) (last_gap gs) g

-- ---- the contract of `lead`

-- the errors that three numbers mean
abbrev pub lead_at : List ℕ → List ℕ → Span → Gap
lead_at image index r = bare (gap_at image index r)

-- the gaps from that span on: as `spanned`, with the errors alone
unfoldable pub led : List ℕ → List ℕ → Kinds → Bool → ℕ → Span → Gaps
led image index w loose b r =
    ended_by r.end (lead_at image index r) (part_at image index r.to) (gaps w loose false true (parts_from image index (end_at index r.to) b))

-- r is the first gap of a reading with a trailing list.
pub record Leads (image index : List ℕ) (w : Kinds) (loose : Bool) (from b : ℕ) (r : Span) : Type 0 where
  pub begins : r.from ≡ from
  pub cuts : r.cut ≡ r.to
  pub lies : Lies image index r
  pub onward : Region image index r.to b
  pub inside : r.end ≡ End.Child → r.to < b
  pub read : leads w loose (parts_from image index from b) ≡ led image index w loose b r

-- r is the survey of a reading from `from` up to b whose trailing list is what waits in the gap t.
pub record SurveyedAfter (image index : List ℕ) (w : Kinds) (loose : Bool) (t : Span) (from b : ℕ) (r : Outline) : Type 0 where
  pub outlines : Outlines image index (sums_of (reading_after (gap_at image index t).waiting (leads w loose (parts_from image index from b)))) r
  pub last : bare (gap_at image index r.last) ≡ bare (last_after (leads w loose (parts_from image index from b)))
