use Rattle.plan.proofs.Laws.{◌▸◌}
use Rattle.printer.proofs.lists.plan_ending.Goals as goal

pub returns : goal.returns
returns c = c.newline_if.ensures _ ▸ c.plan_waiting.ensures
