use Rattle.listing.proofs.Writes.{◌▸◌, by}
use Rattle.listing.proofs.Writing.{octal_by}
use Rattle.listing.proofs.Sheet.put_octal.Goals as goal

pub returns : goal.returns
returns c = by (octal_by _ c.digit.ensures c.digit-2.ensures c.digit-3.ensures) (c.put_byte.ensures ▸ c.put_byte-2.ensures ▸ c.put_byte-3.ensures ▸ c.put_byte-4.ensures)
