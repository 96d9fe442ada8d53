use Rattle.printer.proofs.Looking.{there-none, there-some}
use Rattle.printer.proofs.Marking.{there-marked}
use Rattle.tree.proofs.Options.{standing}
use Rattle.printer.proofs.node.Node.is_there.Goals as goal

pub returns-in_default : goal.returns-in_default
returns-in_default c = search there-none

pub returns-then-place_wanted-ne0 : goal.returns-then-place_wanted-ne0
returns-then-place_wanted-ne0 c = search (there-some, standing)

pub returns : goal.returns
returns c = there-marked c.in-Some.w c.requires.marks (rw c.in-Some.is at c.requires.known) c.in-Some.is c.place_wanted.ensures c.if-place_wanted-ne0.false c.is_marked.ensures
