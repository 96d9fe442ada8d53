use borrow.Author.Rules.{rules}
use Rattle.listing.specs.Listing.{head_line}
use Rattle.items.specs.Names.{other_names, names_of, name_at}
use Rattle.listing.proofs.Writes.{◌▸◌, room-first, ◌⟫◌}
use Rattle.listing.proofs.Sheet.put_head.Goals as goal

pub put_field-requires : goal.put_field-requires
unfolding head_line other_names names_of name_at
put_field-requires c = record { known = search rules; room = room-first _ c.requires }

pub put_field-requires-2 : goal.put_field-requires-2
unfolding head_line other_names names_of name_at
put_field-requires-2 c = record { known = search rules; room = room-first _ (c.requires ⟫ c.put_field.ensures) }

pub put_field-requires-3 : goal.put_field-requires-3
unfolding head_line other_names names_of name_at
put_field-requires-3 c = record { known = search rules; room = room-first _ (c.requires ⟫ c.put_field.ensures ⟫ c.put_field-2.ensures) }

pub put_field-requires-4 : goal.put_field-requires-4
unfolding head_line other_names names_of name_at
put_field-requires-4 c = record { known = search rules; room = room-first _ (c.requires ⟫ c.put_field.ensures ⟫ c.put_field-2.ensures ⟫ c.put_field-3.ensures) }

pub put_byte-requires : goal.put_byte-requires
unfolding head_line other_names names_of name_at
put_byte-requires c = c.requires ⟫ c.put_field.ensures ⟫ c.put_field-2.ensures ⟫ c.put_field-3.ensures ⟫ c.put_field-4.ensures

pub returns : goal.returns
unfolding head_line other_names names_of name_at
returns c = c.put_field.ensures ▸ c.put_field-2.ensures ▸ c.put_field-3.ensures ▸ c.put_field-4.ensures ▸ c.put_byte.ensures
