use Rattle.plan.proofs.Laws.{◌▸◌}
use Rattle.printer.specs.Lists.{close_arguments}
use Rattle.printer.proofs.lists.close_arguments.Goals as goal

pub returns : goal.returns
unfolding close_arguments
returns c =
    c.end_body.ensures _
    ▸ c.plan_signal.ensures _
    ▸ c.plan_signal-2.ensures _
    ▸ c.repeat_body.ensures _
    ▸ c.plan_ending.ensures
    ▸ c.close_bracket.ensures _
