use Rattle.tree.proofs.Sums.{Summing}
use Rattle.tree.proofs.refuse.sum_of_sizes.Given as goal

abbrev pub invariant-loop-i : goal.invariant-loop-i
invariant-loop-i l = Summing l.image l.total l.i
