-- Small printings that the printing is made of: conditions, groups, commas, comments.
use Rattle.std.specs.Prelude.{ℕ, ◌+◌, ◌*◌, Bool, true, false}
use Prim.Native.String.{String}
use Rattle.items.specs.Item.{Test, always, lines, newline, space_or_newline, mark, group, group_end, if_test, else_item, end_if, Print, ◌⨟◌, say, lit, when, with_number}
use Rattle.comments.specs.Comments.{end_of_items}
use Rattle.plan.specs.Comments.{comments}
use Rattle.children.specs.Reading.{Ending}

-- if(should_start_with_newline)(nl)
abbrev pub newline_if : Bool → Print
newline_if b = when b (say newline)

-- if_else: p where the test holds, else q
abbrev pub either : Test → Print → Print → Print
either t p q = say (if_test t) ⨟ p ⨟ say else_item ⨟ q ⨟ say end_if

-- if: p where the test holds
abbrev pub only_if : Test → Print → Print
only_if t p = say (if_test t) ⨟ p ⨟ say end_if

-- new_line_group
abbrev pub grouped : Print → Print
grouped p = say group ⨟ p ⨟ say group_end

-- a comma where more follows, else a "trailing comma" where the test holds
unfoldable pub comma : Bool → Test → Print
comma true t = lit ","
comma false t = only_if t (lit ",")

-- "element separator" and its like: nl where the test holds, else sonl
abbrev pub separator : Test → Print
separator t = either t (say newline) (say space_or_newline)

-- end_comments: a blank line if it asks for one, and the comments
abbrev pub ending : Ending → Print
ending e = newline_if e.blank_line ⨟ comments e.trivia end_of_items

-- multi_line of list k: true_resolver() where the source has many lines, else is_multiple_lines(start, end)
unfoldable pub test_of : Bool → ℕ → Test
test_of true k = always
test_of false k = lines (2 * k)

-- a list in its brackets: 'The k-th list that makes line marks, from 0 in printing order, has marks 2k and 2k+1'
unfoldable pub bracketed : String → String → (ℕ → Print) → Print
bracketed a z p = with_number λ k. lit a ⨟ say (mark (2 * k)) ⨟ p k ⨟ lit z ⨟ say (mark (2 * k + 1))
