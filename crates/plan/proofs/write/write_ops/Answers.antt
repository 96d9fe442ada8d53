use mathlib.Core.List.{flatten}
use mathlib.Core.Path.{refl}
use Rattle.plan.specs.Words.{words}
use Rattle.plan.proofs.Written.{writing_none, writing-fits, writing_more}
use Rattle.plan.proofs.write.write_ops.Goals as goal

pub loop-op-init : goal.loop-op-init
unfolding words flatten
loop-op-init c = (refl, writing_none _ _ _ _ _ c.no_size-p.ensures c.requires.fits)

pub write_op-p-requires-clause-fits : goal.write_op-p-requires-clause-fits
write_op-p-requires-clause-fits c = (writing-fits c.requires.within c.loop-op.invariant.1 c.loop-op-test.true).1

pub loop-op-preserved : goal.loop-op-preserved
loop-op-preserved c = (c.loop-op.invariant.0, writing_more c.requires.within c.loop-op.invariant.1 c.loop-op-test.true c.write_op-p.ensures)
