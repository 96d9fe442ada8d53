use Rattle.plan.proofs.Steps.{stop-planned, passed, stopping}
use Rattle.plan.proofs.Planner.stop_at.Goals as goal

pub returns-then-is_some-clause-plans : goal.returns-then-is_some-clause-plans
returns-then-is_some-clause-plans c = λ s. stop-planned s _ (passed s _ _ c.if-is_some.ensures)

pub returns-clause-plans : goal.returns-clause-plans
returns-clause-plans c = λ s. stop-planned s _ (stopping s _ c.if-is_some.ensures c.args.e)
