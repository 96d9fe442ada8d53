use Rattle.plan.proofs.Noted.{waiting-silent, waiting-planned}
use Rattle.plan.proofs.notes.plan_waiting.Goals as goal

pub returns-then-not-g : goal.returns-then-not-g
returns-then-not-g c = search waiting-silent

pub returns : goal.returns
returns c = waiting-planned _ _ _ c.args.g _ c.kinds_of-w.ensures c.plan_all.ensures c.note_kinds-v.ensures c.plan_all-2.ensures
