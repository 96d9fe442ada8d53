-- Items of every kind.
use Rattle.std.specs.Prelude.{List, [], ◌∷◌}
use Rattle.text.specs.Basic.{ascii}
use Rattle.items.specs.Item.{always, lines, Item, text, newline, space_or_newline, tab, indent, outdent, mark, group, group_end, block, block_end, run, run_end, again, if_test, else_item, end_if}

-- with small and large numbers, an empty text and one of twelve bytes
abbrev pub every_items : List Item
every_items =
    text [] ∷ newline ∷ space_or_newline ∷ tab ∷ indent ∷ outdent ∷ mark 4294967295 ∷ group ∷ group_end ∷ block ∷ block_end ∷ run 9 ∷ run_end 10 ∷ again 99
    ∷ if_test always ∷ if_test (lines 1000000000) ∷ else_item ∷ end_if ∷ text (ascii "twelve bytes")
    ∷ []
