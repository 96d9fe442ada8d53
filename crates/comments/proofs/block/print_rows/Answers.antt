use Rattle.comments.proofs.Said.{showing_more, showing_all}
use Rattle.comments.proofs.Walks.{row-less}
use Rattle.comments.proofs.block.print_rows.Goals as goal

pub loop-j-smaller : goal.loop-j-smaller
loop-j-smaller c = search row-less

pub loop-j-preserved : goal.loop-j-preserved
loop-j-preserved c = search showing_more

pub returns : goal.returns
returns c = search showing_all
