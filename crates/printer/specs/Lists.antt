-- What stands around the children of each kind of list, and what opens and closes a list, as the code prints it.
use Rattle.std.specs.Prelude.{ℕ, ◌+◌, ◌*◌, Bool, ◌&&◌, List, nat_le}
use Prim.Native.String.{String}
use Rattle.items.specs.Item.{Test, newline, mark, group, group_end, block, block_end, run_end, again, if_test, else_item, end_if, Print, ◌⨟◌, none, say, lit, when, open_run}
use Rattle.tree.specs.declared.class.Class.{Class}
use Rattle.tree.specs.declared.class.Class.TheVariants.{Expr, Member, LBrack, RBrack, LBrace, RBrace}
use Rattle.comments.specs.Comments.{above_item, item_inline}
use Rattle.plan.specs.Comments.{comments}
use Rattle.children.specs.Gaps.{Gap, newlines_at}
use Rattle.children.specs.Reading.{Ending}
use Rattle.children.specs.Spans.{gap_at}
use Rattle.children.specs.declared.survey.Outline.{Outline}
use Rattle.printer.specs.declared.lists.Style.{Style}
use Rattle.printer.specs.declared.lists.Style.TheVariants.{Elements, Arguments, Members, Specs, Binds}
use Rattle.printer.specs.declared.lists.ListKind.{ListKind}
use Rattle.printer.specs.declared.lists.ListKind.TheVariants.{Array, Object}
use Rattle.printer.specs.Combine.{newline_if, only_if, comma, separator, ending}

-- what follows a child on its line
unfoldable pub on_line : Style → Test → Bool → Print
on_line Elements t m = comma m t
on_line Arguments t m = comma m t
on_line Members t m = only_if t (lit ",")
on_line Specs t m = none
on_line Binds t m = lit ","

-- what stands behind a child and its comments
unfoldable pub behind_it : Style → Test → Bool → Print
behind_it Elements t m = separator t
behind_it Arguments t m = when m (separator t)
behind_it Members t m = separator t
behind_it Specs t m = separator t
behind_it Binds t m = say newline

-- what stands before a child, from the gap before it
unfoldable pub above : Gap → Print
above a = newline_if (a.had && nat_le 2 (newlines_at a)) ⨟ comments a.waiting above_item

-- what follows a child, from the gap behind it: f on its line, its comments, and g behind them
unfoldable pub following : (Bool → Print) → (Bool → Print) → Gap → Bool → Print
following f g b m = f m ⨟ comments b.inline item_inline ⨟ g m

-- what is behind the last child, from what a survey says
abbrev pub ending_of : List ℕ → List ℕ → Outline → Ending
ending_of image index o = record { blank_line = o.blank; trivia = (gap_at image index o.last).waiting }

-- from a list's bracket to its first group
unfoldable pub open_list : String → ℕ → Test → Print
open_list a k t = lit a ⨟ say (mark (2 * k)) ⨟ say (if_test t) ⨟ say block ⨟ say newline ⨟ open_run ⨟ say group

-- the end of a list's group, run and block
unfoldable pub end_body : ℕ → Print
end_body k = say group_end ⨟ say (run_end k) ⨟ say block_end

-- a list's body once more, and the end of the branches
unfoldable pub repeat_body : ℕ → Print
repeat_body k = say (again k) ⨟ say end_if

-- a list's closing bracket
unfoldable pub close_bracket : String → ℕ → Print
close_bracket z k = lit z ⨟ say (mark (2 * k + 1))

-- from the end of the inner group of a list made by with_indent_eoi to its end
unfoldable pub close_list : String → ℕ → Ending → Print
close_list z k e = say group_end ⨟ ending e ⨟ end_body k ⨟ say else_item ⨟ lit " " ⨟ repeat_body k ⨟ close_bracket z k

-- from the end of the group of a list of arguments to its end
unfoldable pub close_arguments : String → ℕ → Ending → Print
close_arguments z k e = end_body k ⨟ say newline ⨟ say else_item ⨟ repeat_body k ⨟ ending e ⨟ close_bracket z k

-- the token that a list begins with
abbrev pub opener_of : ListKind → Class
opener_of Array = LBrack
opener_of Object = LBrace

-- the token that a list ends with
abbrev pub closer_of : ListKind → Class
closer_of Array = RBrack
closer_of Object = RBrace

-- the children of a list
abbrev pub child_of : ListKind → Class
child_of Array = Expr
child_of Object = Member

-- the text of an empty list
abbrev pub empty_text : ListKind → String
empty_text Array = "[ ]"
empty_text Object = "{ }"

-- the text that opens a list
abbrev pub open_text : ListKind → String
open_text Array = "["
open_text Object = "{"

-- the text that closes a list
abbrev pub close_text : ListKind → String
close_text Array = "]"
close_text Object = "}"
