use Rattle.listing.proofs.Writes.{◌▸◌}
use Rattle.listing.proofs.Sheet.put_field.Goals as goal

pub returns : goal.returns
returns c = c.put_name.ensures ▸ c.put_byte.ensures ▸ c.put_decimal.ensures
