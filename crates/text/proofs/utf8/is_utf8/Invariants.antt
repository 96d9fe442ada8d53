use lib.ListN.{length}
use Rattle.text.proofs.Owing.{Validating}
use Rattle.text.proofs.utf8.is_utf8.Given as goal

abbrev pub invariant-loop-b : goal.invariant-loop-b
invariant-loop-b l = Validating l.s l.owed l.rest

abbrev pub decreases-loop-b : goal.decreases-loop-b
decreases-loop-b l = length l.rest
