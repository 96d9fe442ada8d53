-- format_comments of a list of parts.
use Rattle.std.specs.Prelude.{List, [], ◌∷◌}
use Rattle.items.specs.Item.{Print, ◌⨟◌, none, says}
use Rattle.comments.specs.Comments.{Location, comment}
use Rattle.tree.specs.Tree.{Part}

-- format_comments: each trivia or custom error in turn, at the place
unfoldable pub comments : List Part → Location → Print
comments [] loc = none
comments (x ∷ xs) loc = says (comment x.kind x.text loc) ⨟ comments xs loc
