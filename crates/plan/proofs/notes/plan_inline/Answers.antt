use Rattle.plan.proofs.Noted.{inline-silent, inline-planned}
use Rattle.plan.proofs.notes.plan_inline.Goals as goal

pub returns-then-not-g : goal.returns-then-not-g
returns-then-not-g c = search inline-silent

pub returns : goal.returns
returns c = inline-planned _ _ _ c.args.g _ c.kinds_of-w.ensures c.plan_all.ensures
