use Prim.Native.Nat.{◌-◌}
use Rattle.tree.proofs.Ending.{Ending}
use Rattle.tree.proofs.index.find_end.Given as goal

abbrev pub invariant-loop-j : goal.invariant-loop-j
invariant-loop-j l = Ending l.image l.i l.j

abbrev pub decreases-loop-j : goal.decreases-loop-j
decreases-loop-j l = l.n - l.j
