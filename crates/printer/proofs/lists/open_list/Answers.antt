use Rattle.plan.proofs.Laws.{◌▸◌}
use Rattle.printer.specs.Lists.{open_list}
use Rattle.printer.proofs.Chosen.{mark_as}
use Rattle.printer.proofs.lists.open_list.Goals as goal

pub returns : goal.returns
unfolding open_list
returns c =
    λ s. c.plan_word.ensures s
    ▸ mark_as c.first_mark.ensures (c.plan_mark.ensures s)
    ▸ c.plan_if.ensures s
    ▸ c.plan_signal.ensures s
    ▸ c.plan_signal-2.ensures s
    ▸ c.open_run.ensures s
    ▸ c.plan_signal-3.ensures s
