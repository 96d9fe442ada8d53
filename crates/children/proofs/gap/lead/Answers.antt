use native.Mathlib.Omega.{arith}
use Rattle.children.proofs.Turns.{space-none}
use Rattle.children.proofs.Leading.{leading-none, leading-fits, leading-more, leading-stop, leading-all}
use Rattle.children.proofs.gap.lead.Goals as goal

pub loop-j-init : goal.loop-j-init
loop-j-init c = search leading-none

pub returns-in-Break : goal.returns-in-Break
returns-in-Break c = search leading-stop

pub with-tally-requires-clause-fits : goal.with-tally-requires-clause-fits
with-tally-requires-clause-fits c = omega (arith, leading-fits c.loop-j.invariant c.loop-j-test.true _ c.space_of-f.ensures, c.well_formed)

pub with-tally-requires-clause-space : goal.with-tally-requires-clause-space
with-tally-requires-clause-space c = space-none _ _ _ _ _ c.space_of-f.ensures c.kind_at.ensures

pub loop-j-preserved : goal.loop-j-preserved
loop-j-preserved c = search leading-more

pub returns : goal.returns
returns c = search leading-all
