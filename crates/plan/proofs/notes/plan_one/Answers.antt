use borrow.Author.Rules.{rules}
use Rattle.plan.proofs.Noted.{one-planned, one_none}
use Rattle.plan.proofs.notes.plan_one.Goals as goal

pub returns-then-is : goal.returns-then-is
returns-then-is c = one-planned _ _ _ _ _ c.kind_at-k.ensures c.is.ensures (search rules) c.plan_comment.ensures

pub returns-else-is : goal.returns-else-is
returns-else-is c = one_none _ _ _ _ _ c.kind_at-k.ensures c.is.ensures c.if-is.false
