use Rattle.printer.proofs.Marking.{want-absent}
use Rattle.printer.proofs.node.Node.wanted_part.Goals as goal

pub returns-then-not-is_marked : goal.returns-then-not-is_marked
returns-then-not-is_marked c = search want-absent
