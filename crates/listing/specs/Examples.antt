-- The example of a listing: 'For the tree of `[1]` without spaces'. `one-response` of `formatter` has its lines.
use Rattle.std.specs.Prelude.{List, [], ◌∷◌}
use Rattle.text.specs.Basic.{ascii}
use Rattle.items.specs.Item.{lines, Item, text, newline, space_or_newline, mark, group, group_end, block, block_end, run, run_end, again, if_test, else_item, end_if}

-- the items of `[1]`
abbrev pub one_items : List Item
one_items =
    text (ascii "[") ∷ mark 0 ∷ if_test (lines 0) ∷ block ∷ newline ∷ run 0 ∷ group ∷ group ∷ text (ascii "1") ∷ if_test (lines 0) ∷ text (ascii ",")
    ∷ end_if ∷ if_test (lines 0) ∷ newline ∷ else_item ∷ space_or_newline ∷ end_if ∷ group_end ∷ group_end ∷ run_end 0 ∷ block_end ∷ else_item ∷ text (ascii " ")
    ∷ again 0 ∷ end_if ∷ text (ascii "]") ∷ mark 1 ∷ newline
    ∷ []
