use Rattle.comments.proofs.Said.{tabs_more, tabs-none, tabs-stop}
use Rattle.comments.proofs.block.print_tabbed.Goals.{in_default, in_default-2}
use Rattle.comments.proofs.block.print_tabbed.Goals as goal

pub loop-rest-preserved : goal.loop-rest-preserved
loop-rest-preserved c = search tabs_more

pub returns : goal.returns
returns c = elim c.if-rest-lt1.branch [ in_default w ↦ search tabs-none | in_default-2 w ↦ search tabs-stop ]
