use mathlib.Core.List.{flatten}
use mathlib.Core.Path.{refl}
use Rattle.plan.specs.Words.{words}
use Rattle.plan.proofs.Written.{counting-none, counting-fits, counting_more}
use Rattle.plan.proofs.write.count_ops.Goals as goal

pub loop-op-init : goal.loop-op-init
unfolding words flatten
loop-op-init c = (refl, counting-none _ _ _ _ c.no_size-p.ensures c.requires.fits)

pub count_op-p-requires-clause-fits : goal.count_op-p-requires-clause-fits
count_op-p-requires-clause-fits c = counting-fits c.requires.within c.loop-op.invariant.1 c.loop-op-test.true

pub loop-op-preserved : goal.loop-op-preserved
loop-op-preserved c = (c.loop-op.invariant.0, counting_more c.requires.within c.loop-op.invariant.1 c.loop-op-test.true c.count_op-p.ensures)
