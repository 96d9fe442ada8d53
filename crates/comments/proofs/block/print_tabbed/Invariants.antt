use lib.ListN.{length}
use Rattle.items.proofs.Laws.{Going}
use Rattle.comments.specs.Comments.{tabbed}
use Rattle.comments.proofs.block.print_tabbed.Given as goal

-- the tabs before the rest are printed
abbrev pub invariant-loop-rest : goal.invariant-loop-rest
invariant-loop-rest l = Going (tabbed l.doc l.l) (tabbed l.doc l.rest) l.initial.out l.out

abbrev pub decreases-loop-rest : goal.decreases-loop-rest
decreases-loop-rest l = length l.rest
