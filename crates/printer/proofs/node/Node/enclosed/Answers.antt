use Rattle.printer.proofs.Looking.{first-has, bounded_as}
use Rattle.printer.proofs.node.Node.enclosed.Goals as goal

pub between-requires : goal.between-requires
between-requires c = record { starts = first-has _ _ c.first_of.ensures; ends = first-has _ _ c.first_of-2.ensures }

pub returns : goal.returns
returns c = bounded_as c.first_of.ensures c.first_of-2.ensures c.between.ensures
