use Rattle.plan.proofs.Laws.{◌▸◌}
use Rattle.printer.proofs.lists.separator.Goals as goal

pub returns : goal.returns
returns c = λ s. c.plan_if.ensures s ▸ c.plan_signal.ensures s ▸ c.plan_signal-2.ensures s ▸ c.plan_signal-3.ensures s ▸ c.plan_signal-4.ensures s
