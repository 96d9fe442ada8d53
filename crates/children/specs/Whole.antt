-- A whole reading by its gaps, child after child, and what it comes to.
use Rattle.std.specs.Prelude.{◌&&◌, List, [], ◌∷◌, ◌++◌, leb, length}
use Rattle.tree.specs.Tree.{Part}
use Rattle.children.specs.Reading.{Child, Ending, Reading, foreign, read, any_many_lines}
use Rattle.children.specs.Gaps.{Gap, Gaps, stopped, ending, newlines_at, Sums, foreign_at, sums}

-- the child behind a gap, its own inline trivia not yet read
abbrev pub child_at : Gap → Part → Child
child_at g x = record { blank_line = g.had && leb 2 (newlines_at g); many_lines = leb 1 (newlines_at g); before = g.waiting; value = x; inline = [] }

-- a child with the inline trivia of the gap behind it
abbrev pub closed_by : Child → Gap → Child
closed_by c g = record { blank_line = c.blank_line; many_lines = c.many_lines; before = c.before; value = c.value; inline = g.inline }

-- what is behind the last child
abbrev pub ending_at : Gap → Ending
ending_at g = record { blank_line = leb 2 (newlines_at g); trivia = g.waiting }

-- a reading with children in front
abbrev pub preceded : List Child → Reading → Reading
preceded cs (foreign n) = foreign n
preceded cs (read ds e) = read (cs ++ ds) e

-- the reading from a child on, with the gaps behind it
unfoldable pub read_from : Child → Gaps → Reading
read_from c (stopped g n) = foreign n
read_from c (ending g) = read (closed_by c g ∷ []) (ending_at g)
read_from c (Gaps.child g x gs) = preceded (closed_by c g ∷ []) (read_from (child_at g x) gs)

-- the reading that gaps make
unfoldable pub reading_of : Gaps → Reading
reading_of (stopped g n) = foreign n
reading_of (ending g) = read [] (ending_at g)
reading_of (Gaps.child g x gs) = read_from (child_at g x) gs

-- what a reading comes to
unfoldable pub sums_of : Reading → Sums
sums_of (foreign n) = foreign_at n
sums_of (read cs e) = sums (length cs) (any_many_lines cs) e.blank_line e.trivia
