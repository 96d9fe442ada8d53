use Rattle.tree.proofs.Children.{indexable}
use Rattle.tree.proofs.Tries.{tried-refused, tried-short}
use Rattle.tree.proofs.index.try_index.Goals as goal

pub returns-in_default : goal.returns-in_default
returns-in_default c = search tried-refused

pub returns-then-table-accepted : goal.returns-then-table-accepted
returns-then-table-accepted c = tried-short c.refusal.ensures c.in-Ok.is c.if-table-accepted.true

pub index-requires : goal.index-requires
index-requires c = indexable c.refusal.ensures c.in-Ok.is c.if-table-accepted.false
