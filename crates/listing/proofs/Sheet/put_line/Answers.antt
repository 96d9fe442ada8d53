use Rattle.listing.specs.Shown.{line_at}
use Rattle.listing.proofs.Writes.{◌▸◌, room-first, ◌⟫◌}
use Rattle.listing.proofs.Sheet.put_line.Goals as goal

pub put_decimal-requires : goal.put_decimal-requires
unfolding line_at
put_decimal-requires c = room-first _ c.requires.room

pub put_byte-requires : goal.put_byte-requires
unfolding line_at
put_byte-requires c = room-first _ (c.requires.room ⟫ c.put_decimal.ensures)

pub put_item-requires : goal.put_item-requires
unfolding line_at
put_item-requires c = record { known = c.requires.known.known; room = room-first _ (c.requires.room ⟫ c.put_decimal.ensures ⟫ c.put_byte.ensures) }

pub put_byte-requires-2 : goal.put_byte-requires-2
unfolding line_at
put_byte-requires-2 c = c.requires.room ⟫ c.put_decimal.ensures ⟫ c.put_byte.ensures ⟫ c.put_item.ensures

pub returns : goal.returns
unfolding line_at
returns c = c.put_decimal.ensures ▸ c.put_byte.ensures ▸ c.put_item.ensures ▸ c.put_byte-2.ensures
