use native.Mathlib.Omega.{arith}
use Rattle.items.specs.Item.{plain_item}
use Rattle.plan.specs.Ops.{expand}
use Rattle.plan.proofs.Steps.{open_planned, passed, overrun, opened, unopened, coded-planned}
use Rattle.plan.proofs.Planner.open_run.Goals as goal

pub returns-then-is_some : goal.returns-then-is_some
returns-then-is_some c = λ s. open_planned s (passed s _ _ c.if-is_some.ensures)

pub returns-then-k-ge-LIMIT : goal.returns-then-k-ge-LIMIT
returns-then-k-ge-LIMIT c = λ s. open_planned s (overrun s _ c.if-is_some.ensures (omega (arith, c.if-k-ge-LIMIT.true)))

pub returns-then-is_none : goal.returns-then-is_none
unfolding expand plain_item
returns-then-is_none c = λ s. open_planned s (opened s _ c.if-is_some.ensures (coded-planned s 12 _ (omega arith) (c.add.ensures s)) c.if-is_none.ensures)

pub returns-else-is_none : goal.returns-else-is_none
unfolding expand plain_item
returns-else-is_none c = λ s. open_planned s (unopened s _ c.if-is_some.ensures (coded-planned s 12 _ (omega arith) (c.add.ensures s)) c.if-is_none.ensures)
