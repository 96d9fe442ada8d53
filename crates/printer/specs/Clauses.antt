-- What contracts of printers name: parts, gaps, readings and printings of a lent image with its lent index.
use Rattle.std.specs.Prelude.{ℕ, ◌+◌, Bool, List}
use Rattle.std.proofs.Math.Option.{Option, some}
use Rattle.text.specs.Basic.{or_else}
use Rattle.tree.specs.Source.{LentTree}
use Rattle.items.specs.Item.{newline, Print, ◌⨟◌, say, lit, when, condition_test}
use Rattle.items.specs.declared.Condition.{Condition}
use Rattle.comments.specs.Comments.{above_item, end_of_items}
use Rattle.tree.specs.Tree.{Part}
use Rattle.tree.specs.declared.class.Class.{Class}
use Rattle.tree.specs.Class.{kinds, first, last, number_of, all_of}
use Rattle.tree.specs.declared.class.Class.TheVariants.{MemberComp, LBrace}
use Rattle.tree.specs.Index.{end_at, part_at, parts_from}
use Rattle.children.specs.declared.around.Notes.{Notes}
use Rattle.children.specs.declared.between.Bounds.{Bounds}
use Rattle.children.specs.declared.gap.Span.{Span}
use Rattle.children.specs.declared.survey.Outline.{Outline}
use Rattle.children.specs.Between.{Bounded}
use Rattle.plan.specs.Comments.{comments}
use Rattle.children.specs.Gaps.{Gap, is_child}
use Rattle.children.specs.Reading.{Child, Ending, Reading, enclosed}
use Rattle.children.specs.Spans.{gap_at, spanned}
use Rattle.children.specs.Stretch.{notes}
use Rattle.plan.specs.Plans.{LentPlanner, Plans}
use Rattle.printer.specs.declared.lists.ListKind.{ListKind}
use Rattle.printer.specs.declared.lists.Style.{Style}
use Rattle.printer.specs.declared.node.Node.{Node}
use Rattle.printer.specs.declared.rows.Entry.{Entry}
use Rattle.printer.specs.Layout.{Piece, asked}
use Rattle.printer.specs.Print.{each_of, what, children, list}
use Rattle.plan.specs.Words.{word_at}
use Rattle.printer.specs.Rows.{want_at}
use Rattle.printer.specs.Lists.{on_line, behind_it, following, ending_of, opener_of, closer_of, child_of, empty_text, open_text, close_text}
use Rattle.printer.specs.Under.{under, parts_of}
use Rattle.printer.specs.Walked.{around, stated, walked}
use Rattle.printer.specs.Reads.{number_or, read_at}

-- ---- what is read

-- the parts of a node
abbrev pub parts_in : Node → List Part
parts_in n = parts_of n.tree.now.image n.tree.now.index n.element.0

-- element j of its tree as a part
abbrev pub part_in : Node → ℕ → Part
part_in n j = part_at n.tree.now.image n.tree.now.index j

-- the number of the first part of a class
abbrev pub first_in : Node → Class → Option ℕ
first_in n c = number_of (first c (parts_in n))

-- the trivia and custom errors of a stretch
abbrev pub notes_in : Node → Notes → List Part
notes_in n d = all_of notes (parts_from n.tree.now.image n.tree.now.index d.from d.to)

-- a gap
abbrev pub gap_in : LentTree → Span → Gap
gap_in tree s = gap_at tree.entry.now.image tree.entry.now.index s

-- what is behind the last child
abbrev pub ending_in : LentTree → Outline → Ending
ending_in tree o = ending_of tree.entry.now.image tree.entry.now.index o

-- the reading of a class between two places
abbrev pub read_in : Node → Class → Bounds → Option (List Part) → Reading
read_in n c z trailing = read_at n.tree.now.image n.tree.now.index c z trailing

-- r is where the reading of a node between a start and an end begins and ends
abbrev pub BoundedIn : Node → Option ℕ → Option ℕ → Bounds → Type 0
BoundedIn n s e r = Bounded n.tree.now.image n.tree.now.index (n.element.0 + 1) (end_at n.tree.now.index n.element.0) s e r

-- the start of the second reading of an object comprehension: its last member, or else its `{`
abbrev pub spec_start_in : Node → Option ℕ
spec_start_in n = number_of (or_else (last MemberComp (parts_in n)) (first LBrace (parts_in n)))

-- what waits in a gap, as the trailing list of a reading
abbrev pub trailing_in : Node → Span → Option (List Part)
trailing_in n s = some (gap_at n.tree.now.image n.tree.now.index s).waiting

-- ---- what is printed

-- the contract of a printer of a node: it plans q
abbrev pub PlansOf : LentPlanner → Node → Print → Type 0
PlansOf planner n q = Plans n.tree.now q planner.entry.now planner.exit.now

-- what the children of a node print, by their numbers
abbrev pub under_in : Node → ℕ → Print
under_in n = under n.tree.now.image n.element.0

-- a piece of a node's row, if it is asked for
abbrev pub piece_in : Node → Piece → Print
piece_in n q = when (asked (parts_in n) q) (what (under_in n) (parts_in n) q.what)

-- some parts of a node, as the entry of a piece says
abbrev pub each_in : Node → Entry → Bool → List Part → Print
each_in n x ended ps = each_of (under_in n) (want_at x.want).class (word_at x.word) ended ps

-- children of a node, each with its comments
abbrev pub children_in : Node → Style → Condition → List Child → Print
children_in n style t cs = children (under_in n) (on_line style (condition_test t)) (behind_it style (condition_test t)) cs

-- the same by a walk from the gap s on
abbrev pub walked_in : Node → Style → Condition → Class → Bounds → Span → Print
walked_in n style t c z s =
    walked (around (under_in n) (on_line style (condition_test t)) (behind_it style (condition_test t))) (spanned n.tree.now.image n.tree.now.index (kinds c) z.loose z.to s)

-- a child j of a node between the gaps s and g
abbrev pub around_in : Node → Style → Condition → Span → ℕ → Span → Print
around_in n style t s j g =
    around (under_in n) (on_line style (condition_test t)) (behind_it style (condition_test t)) (gap_at n.tree.now.image n.tree.now.index s) j (gap_at n.tree.now.image n.tree.now.index g) (is_child g.end)

-- a statement j of a node between the gaps s and g
abbrev pub stated_in : Node → Span → ℕ → Span → Print
stated_in n s j g = stated (under_in n) (gap_at n.tree.now.image n.tree.now.index s) j (gap_at n.tree.now.image n.tree.now.index g) (is_child g.end)

-- what follows a child, with the gap g behind it
abbrev pub following_in : LentTree → Style → Condition → Span → Print
following_in tree style t g = following (on_line style (condition_test t)) (behind_it style (condition_test t)) (gap_in tree g) (is_child g.end)

-- a list
abbrev pub list_in : Node → ListKind → Print
list_in n l = list (under_in n) (empty_text l) (open_text l) (close_text l) (enclosed (child_of l) (opener_of l) (closer_of l) (parts_in n))

-- a source file: its expression, if any, with the comments before it and behind it
abbrev pub whole_in : Node → Notes → Option ℕ → Notes → Print
whole_in n before e after =
    (comments (notes_in n before) above_item)
    ⨟ number_or (under_in n) (lit "/*missing Expr*/") e
    ⨟ say newline
    ⨟ (comments (notes_in n after) end_of_items)
