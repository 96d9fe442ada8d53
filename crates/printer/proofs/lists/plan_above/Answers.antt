use Rattle.plan.proofs.Laws.{◌▸◌}
use Rattle.printer.specs.Lists.{above}
use Rattle.printer.proofs.Chosen.{when_as}
use Rattle.printer.proofs.lists.plan_above.Goals as goal

pub returns : goal.returns
unfolding above
returns c = when_as _ c.blank_line-blank.ensures (c.newline_if.ensures _) ▸ c.plan_waiting.ensures
