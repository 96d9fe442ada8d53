-- What the keeping mode keeps: the comments before, between and behind the statements of an expression.
use Rattle.std.specs.Prelude.{List, [], ◌∷◌, ◌++◌}
use Rattle.items.specs.Item.{Item}
use Rattle.comments.specs.Comments.{above_item, comment}
use Rattle.tree.specs.Tree.{Part}
use Rattle.tree.specs.declared.class.Class.TheVariants.{Trivia}
use Rattle.tree.specs.Class.{kinds, all_of}
use Rattle.children.specs.Reading.{Child}

-- what stands around the children of a reading, in its order, with what is left behind them
unfoldable pub notes_of : List Child → List Part → List Part
notes_of [] ts = ts
notes_of (c ∷ cs) ts = c.before ++ (c.inline ++ notes_of cs ts)

-- the items of comments and custom errors, on lines of their own
unfoldable pub noted_items : List Part → List Item
noted_items [] = []
noted_items (x ∷ xs) = comment x.kind x.text above_item ++ noted_items xs

-- the comment tokens among parts
abbrev pub trivia : List Part → List Part
trivia xs = all_of (kinds Trivia) xs

-- xs stand among ys, in their order.
pub data Among : List Item → List Item → Type 0 where
  end : Among [] []
  here : {x : Item} {xs ys : List Item} → Among xs ys → Among (x ∷ xs) (x ∷ ys)
  past : {y : Item} {xs ys : List Item} → Among xs ys → Among xs (y ∷ ys)
