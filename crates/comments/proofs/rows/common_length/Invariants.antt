use Prim.Native.Nat.{suc, ◌-◌}
use lib.ListN.{length}
use Rattle.comments.proofs.Walks.{Padding}
use Rattle.comments.proofs.rows.common_length.Given as goal

abbrev pub invariant-loop-j : goal.invariant-loop-j
invariant-loop-j l = Padding l.s l.base l.i l.n l.j

abbrev pub decreases-loop-j : goal.decreases-loop-j
decreases-loop-j l = suc (length l.s) - l.j
