use Prim.Native.Nat.{suc, ◌-◌}
use lib.ListN.{length}
use Rattle.comments.proofs.Said.{Showing}
use Rattle.comments.proofs.block.print_rows.Given as goal

abbrev pub invariant-loop-j : goal.invariant-loop-j
invariant-loop-j l = Showing l.doc l.n l.s l.i l.initial.out l.out l.j

abbrev pub decreases-loop-j : goal.decreases-loop-j
decreases-loop-j l = suc (length l.s) - l.j
