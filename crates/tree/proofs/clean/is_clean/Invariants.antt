use Rattle.tree.proofs.Cleaning.{Cleaning}
use Rattle.tree.proofs.clean.is_clean.Given as goal

abbrev pub invariant-loop-i : goal.invariant-loop-i
invariant-loop-i l = Cleaning l.image l.deepest l.at l.i
