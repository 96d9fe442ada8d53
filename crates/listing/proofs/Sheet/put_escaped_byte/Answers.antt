use Rattle.items.proofs.Escapes.{byte-octal, byte-itself}
use Rattle.listing.proofs.Writes.{by, room_as}
use Rattle.listing.proofs.Sheet.put_escaped_byte.Goals as goal

pub put_octal-requires : goal.put_octal-requires
put_octal-requires c = room_as (byte-octal _ c.is_escaped.ensures c.if-is_escaped.true) c.requires

pub put_byte-requires : goal.put_byte-requires
put_byte-requires c = room_as (byte-itself _ c.is_escaped.ensures c.if-is_escaped.false) c.requires

pub returns-then-is_escaped : goal.returns-then-is_escaped
returns-then-is_escaped c = by (byte-octal _ c.is_escaped.ensures c.if-is_escaped.true) c.put_octal.ensures

pub returns-else-is_escaped : goal.returns-else-is_escaped
returns-else-is_escaped c = by (byte-itself _ c.is_escaped.ensures c.if-is_escaped.false) c.put_byte.ensures
