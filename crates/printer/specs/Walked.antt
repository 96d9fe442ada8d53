-- A reading's children printed gap by gap: what is printed of each child, and what a survey says.
use Rattle.std.specs.Prelude.{◌≡◌, ℕ, Bool, true, false, ◌&&◌, List, [], length, nat_le}
use Rattle.items.specs.Item.{Print, ◌⨟◌, none, keeping}
use Rattle.comments.specs.Comments.{above_item, item_inline, end_of_items}
use Rattle.tree.specs.Tree.{Part}
use Rattle.children.specs.declared.survey.Outline.{Outline}
use Rattle.plan.specs.Comments.{comments}
use Rattle.children.specs.Reading.{Child, Ending, Reading, read, any_many_lines}
use Rattle.children.specs.Gaps.{Gap, gap_of, newlines_at, Gaps}
use Rattle.children.specs.Gaps as G
use Rattle.children.specs.Spans.{gap_at}
use Rattle.printer.specs.Combine.{newline_if}

-- the first of some gaps
abbrev pub front_of : Gaps → Gap
front_of (G.stopped g n) = g
front_of (G.ending g) = g
front_of (G.Gaps.child g x gs) = g

-- a child stands behind it
abbrev pub has_child : Gaps → Bool
has_child (G.stopped g n) = false
has_child (G.ending g) = false
has_child (G.Gaps.child g x gs) = true

-- ---- children in turn

-- What is printed of a child: the gap before it, its number, the gap behind it, and whether more children follow.
abbrev pub Turn : Type 0
Turn = Gap → ℕ → Gap → Bool → Print

-- a child of a list with its comments: f m follows it on its line, g m stands behind that
unfoldable pub around : (ℕ → Print) → (Bool → Print) → (Bool → Print) → Turn
around pr f g a j b m = (newline_if (a.had && nat_le 2 (newlines_at a)) ⨟ comments a.waiting above_item ⨟ pr j ⨟ f m ⨟ comments b.inline item_inline) ⨟ g m

-- a statement with what is kept of its comments
unfoldable pub stated : (ℕ → Print) → Turn
stated pr a j b m = keeping (comments a.waiting above_item) ⨟ pr j ⨟ keeping (comments b.inline end_of_items)

-- a child alone
unfoldable pub alone : (ℕ → Print) → Turn
alone pr a j b m = pr j

module _ (turn : Turn) where
  -- the children of a reading, gap by gap
  unfoldable pub walked : Gaps → Print
  walked (G.stopped k n) = none
  walked (G.ending k) = none
  walked (G.Gaps.child k x gs) = turn k x.number (front_of gs) (has_child gs) ⨟ walked gs

  -- the same with a trailing list, which stands before the first child
  unfoldable pub walked_after : List Part → Gaps → Print
  walked_after ts (G.stopped k n) = none
  walked_after ts (G.ending k) = none
  walked_after ts (G.Gaps.child k x gs) = turn (gap_of [] ts false) x.number (front_of gs) (has_child gs) ⨟ walked gs

-- ---- what a survey says

-- A survey's outline of a reading that comes to its end.
pub record Outlined (image index : List ℕ) (r : Reading) (o : Outline) : Type 0 where
  pub kids : List Child
  pub ending : Ending
  pub is : r ≡ read kids ending
  pub count : length kids ≡ o.children
  pub many : any_many_lines kids ≡ o.many
  pub blank : ending.blank_line ≡ o.blank
  pub waits : ending.trivia ≡ (gap_at image index o.last).waiting
