use lib.ListN.{length}
use mathlib.Core.List.{[]}
use Rattle.items.proofs.Laws.{Going}
use Rattle.comments.specs.Comments.{error_items}
use Rattle.comments.proofs.plain.print_error.Given as goal

-- the pieces before the rest are printed
abbrev pub invariant-loop-end : goal.invariant-loop-end
invariant-loop-end l = Going (error_items [] l.s) (error_items [] l.rest) l.initial.out l.out

abbrev pub decreases-loop-end : goal.decreases-loop-end
decreases-loop-end l = length l.rest
