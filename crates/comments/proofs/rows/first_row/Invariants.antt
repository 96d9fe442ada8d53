use Prim.Native.Nat.{suc, ◌-◌}
use lib.ListN.{length}
use Rattle.comments.proofs.Walks.{Skipping}
use Rattle.comments.proofs.rows.first_row.Given as goal

abbrev pub invariant-loop-i : goal.invariant-loop-i
invariant-loop-i l = Skipping l.s l.i

abbrev pub decreases-loop-i : goal.decreases-loop-i
decreases-loop-i l = suc (length l.s) - l.i
