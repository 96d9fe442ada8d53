use Rattle.printer.proofs.Marking.{plus-unmarked}
use Rattle.printer.proofs.Under.{at-region}
use Rattle.printer.proofs.node.Node.plus_part.Goals as goal

pub returns-then-not-is_marked : goal.returns-then-not-is_marked
returns-then-not-is_marked c = search plus-unmarked

pub plus_of-requires : goal.plus_of-requires
plus_of-requires c = search at-region
