use Rattle.tree.proofs.Filling.{Filling}
use Rattle.tree.proofs.index.index.Given as goal

abbrev pub invariant-loop-i : goal.invariant-loop-i
invariant-loop-i l = Filling l.image l.initial.table l.table l.start l.i
