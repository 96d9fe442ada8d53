use Rattle.printer.proofs.Under.{at-region}
use Rattle.printer.proofs.node.Node.nth.Goals as goal

pub nth_of-requires : goal.nth_of-requires
nth_of-requires c = search at-region
