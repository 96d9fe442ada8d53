use native.Mathlib.Omega.{arith}
use Rattle.items.proofs.Lengths.{length-at}
use Rattle.items.proofs.names.name_length.Goals as goal

pub returns : goal.returns
returns c = rw (c.unwrap_or.ensures, c.copied.ensures, c.get.ensures.lookup.4 (omega arith) 0, c.lengths.ensures) (length-at c.args.t c.args.w)
