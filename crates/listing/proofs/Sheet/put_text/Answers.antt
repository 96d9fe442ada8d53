use borrow.Author.Rules.{rules}
use Rattle.listing.specs.Shown.{listed_text}
use Rattle.listing.proofs.Items.{text-part}
use Rattle.listing.proofs.Writes.{◌▸◌, by, room-first, ◌⟫◌, room_as}
use Rattle.items.specs.Lines.{kind_names}
use Rattle.items.specs.Names.{names_of}
use Rattle.listing.proofs.Sheet.put_text.Goals as goal

pub put_field-requires : goal.put_field-requires
unfolding listed_text kind_names names_of
put_field-requires c = record { known = search rules; room = room-first _ c.requires.room }

pub put_byte-requires : goal.put_byte-requires
unfolding listed_text kind_names names_of
put_byte-requires c = room-first _ (c.requires.room ⟫ c.put_field.ensures)

pub put_escaped-requires : goal.put_escaped-requires
unfolding listed_text
put_escaped-requires c = room_as (text-part c.args.texts.now c.args.offset c.args.bytes) (c.requires.room ⟫ c.put_field.ensures ⟫ c.put_byte.ensures)

pub returns : goal.returns
unfolding listed_text
returns c = c.put_field.ensures ▸ c.put_byte.ensures ▸ by (text-part c.args.texts.now c.args.offset c.args.bytes) c.put_escaped.ensures
