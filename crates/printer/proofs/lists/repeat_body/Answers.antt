use Rattle.plan.proofs.Laws.{◌▸◌}
use Rattle.printer.specs.Lists.{repeat_body}
use Rattle.printer.proofs.lists.repeat_body.Goals as goal

pub returns : goal.returns
unfolding repeat_body
returns c = λ s. c.plan_again.ensures s ▸ c.plan_signal.ensures s
