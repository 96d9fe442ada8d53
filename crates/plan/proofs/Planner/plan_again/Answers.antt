use Rattle.plan.proofs.Steps.{carried-again}
use Rattle.items.specs.Item.{says, say, plain_item}
use Rattle.plan.specs.Ops.{expand}
use Rattle.plan.proofs.Planner.plan_again.Goals as goal

pub returns : goal.returns
unfolding expand plain_item says say
returns c = λ s. c.add_numbered.ensures s (carried-again s _)
