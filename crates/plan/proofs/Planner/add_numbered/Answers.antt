use borrow.Author.Rules.{rules}
use Rattle.plan.proofs.Steps.{carried_planned, passed, operand-full, coded-planned}
use Rattle.plan.proofs.Planner.add_numbered.Goals as goal

pub returns-then-is_some : goal.returns-then-is_some
returns-then-is_some c = λ s k. carried_planned s _ _ k (passed s _ _ c.if-is_some.ensures)

pub returns-then-v : goal.returns-then-v
returns-then-v c = λ s k. carried_planned s _ _ k (operand-full s _ c.if-is_some.ensures _ _ (search rules) k.far)

pub returns : goal.returns
returns c = λ s k. carried_planned s _ _ k (coded-planned s _ _ (search rules) (c.add.ensures s))
