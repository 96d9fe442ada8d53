use borrow.Author.Rules.{rules}
use Rattle.listing.proofs.Writes.{one_byte}
use Rattle.listing.proofs.Sheet.put_byte.Goals as goal

pub returns : goal.returns
returns c = record { written = one_byte c.put_byte.ensures; lent = search rules }
