use Rattle.tree.specs.Siblings.{Left}
use Rattle.printer.proofs.Marking.{Marking}
use Rattle.printer.proofs.node.Node.marks_in.Given as goal

abbrev pub invariant-loop-j : goal.invariant-loop-j
invariant-loop-j l = (Marking l.self.tree.now.image l.self.tree.now.index l.a l.b l.m l.j-iterator.next) × (Left l.self.tree.now.image l.self.tree.now.index l.b l.j-iterator)
