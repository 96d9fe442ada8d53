use borrow.Author.Rules.{rules}
use Rattle.plan.proofs.Steps.{carried-token}
use Rattle.items.specs.Item.{says, say, plain_item}
use Rattle.plan.specs.Ops.{expand}
use Rattle.plan.proofs.Planner.plan_token.Goals as goal

pub returns : goal.returns
unfolding expand plain_item says say
returns c = λ s. c.add_numbered.ensures s (carried-token s _ (search rules))
