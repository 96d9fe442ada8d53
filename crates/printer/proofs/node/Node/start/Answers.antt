use native.Mathlib.Omega.{arith}
use Rattle.printer.proofs.Under.{at_next}
use Rattle.printer.proofs.node.Node.start.Goals as goal

pub overflow_add-result : goal.overflow_add-result
overflow_add-result c = omega (arith, at_next c.args.self.at)
