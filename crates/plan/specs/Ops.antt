-- A plan: what is to be printed, one operation after another, a number each.
use Rattle.std.specs.Prelude.{ℕ, zero, suc, ◌+◌, ◌*◌, ◌/◌, ◌%◌, cond, List, [], ◌∷◌, ◌++◌, ◌==◌, nat_le, slice_index}
use Rattle.text.specs.Basic.{ascii}
use Rattle.items.specs.Item.{Item, text, plain_item}
use Rattle.comments.specs.Comments.{Location, above_item, item_inline, end_of_items, comment}
use Rattle.tree.specs.Index.{kind_at, text_at}
use Rattle.tree.specs.Source.{Source}
use Rattle.plan.specs.Words.{word_at}

-- the text of an element
abbrev pub token : Source → ℕ → List ℕ
token s t = text_at s.image s.index t

-- the items of the comment of an element at a place
abbrev pub note : Source → ℕ → Location → List Item
note s t loc = comment (kind_at s.index t) (token s t) loc

-- the place of a comment by the kind of its operation
abbrev pub place_by : ℕ → Location
place_by k = cond (k == 19) above_item (cond (k == 20) item_inline end_of_items)

-- the items of an operation by its kind and operand: 0 a token, 1 a word, 2 to 18 an item without a text, 19 to 21 a comment by its place
unfoldable pub expand : Source → ℕ → ℕ → List Item
expand s k v =
    cond (k == 0) (text (token s v) ∷ [])
    (cond (k == 1) (text (ascii (word_at v)) ∷ [])
    (cond (nat_le 19 k) (note s v (place_by k))
    (plain_item k v ∷ [])))

-- the number of an operation: its kind has 5 bits, its operand 27
abbrev pub coded : ℕ → ℕ → ℕ
coded k v = k + 32 * v

-- operands from here on have no room
abbrev pub operand_limit : ℕ
operand_limit = 134217728

-- the items of an operation
unfoldable pub op_items : Source → ℕ → List Item
op_items s w = expand s (w % 32) (w / 32)

-- the items of the first n operations
unfoldable pub decoded : Source → List ℕ → ℕ → List Item
decoded s ops zero = []
decoded s ops (suc n) = decoded s ops n ++ op_items s (slice_index ops n)

-- the kind of a comment at a place
abbrev pub note_kind : Location → ℕ
note_kind above_item = 19
note_kind item_inline = 20
note_kind end_of_items = 21
