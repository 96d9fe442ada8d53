use Rattle.comments.proofs.Walks.{row-less, padding-none, padding-more, padding-blank, padding_spent, padding-all}
use Rattle.comments.proofs.rows.common_length.Goals as goal

pub loop-j-init : goal.loop-j-init
loop-j-init c = search padding-none

pub returns-then-n-eq0 : goal.returns-then-n-eq0
returns-then-n-eq0 c = search padding_spent

pub loop-j-smaller-then-l-gt0 : goal.loop-j-smaller-then-l-gt0
loop-j-smaller-then-l-gt0 c = search row-less

pub loop-j-preserved-then-l-gt0 : goal.loop-j-preserved-then-l-gt0
loop-j-preserved-then-l-gt0 c = search padding-more

pub loop-j-smaller : goal.loop-j-smaller
loop-j-smaller c = search row-less

pub loop-j-preserved : goal.loop-j-preserved
loop-j-preserved c = search padding-blank

pub returns : goal.returns
returns c = search padding-all
