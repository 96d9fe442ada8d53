use Rattle.plan.proofs.Laws.{◌▸◌}
use Rattle.printer.specs.Lists.{end_body}
use Rattle.printer.proofs.lists.end_body.Goals as goal

pub returns : goal.returns
unfolding end_body
returns c = λ s. c.plan_signal.ensures s ▸ c.end_run.ensures s ▸ c.plan_signal-2.ensures s
