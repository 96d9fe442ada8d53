use borrow.Author.Rules.{rules}
use Rattle.plan.proofs.Steps.{carried-word}
use Rattle.items.specs.Item.{says, say, lit, plain_item}
use Rattle.plan.specs.Ops.{expand}
use Rattle.plan.proofs.Planner.plan_word.Goals as goal

pub returns : goal.returns
unfolding expand plain_item says say lit
returns c = λ s. c.add_numbered.ensures s (carried-word s _ (search rules))
