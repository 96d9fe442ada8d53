use Rattle.cases.proofs.Walk.{passed_none, passed-more}
use Rattle.cases.proofs.fields.behind_fields.Goals as goal

pub loop-init : goal.loop-init
loop-init c = passed_none _ _

pub loop-preserved : goal.loop-preserved
loop-preserved c = passed-more c.loop.invariant c.loop-test.true c.number.ensures c.behind-rest.ensures.value
