use Rattle.plan.proofs.Laws.{◌▸◌}
use Rattle.printer.specs.Lists.{close_bracket}
use Rattle.printer.proofs.Chosen.{mark_as}
use Rattle.printer.proofs.lists.close_bracket.Goals as goal

pub returns : goal.returns
unfolding close_bracket
returns c = λ s. c.plan_word.ensures s ▸ mark_as c.second_mark.ensures (c.plan_mark.ensures s)
