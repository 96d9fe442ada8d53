use Rattle.plan.proofs.Laws.{◌▸◌}
use Rattle.printer.proofs.lists.close_binds.Goals as goal

pub returns : goal.returns
returns c = c.plan_ending.ensures ▸ c.plan_signal.ensures _
