use Rattle.plan.proofs.Laws.{◌▸◌}
use Rattle.plan.specs.Words.{words}
use Rattle.printer.specs.Lists.{close_list}
use Rattle.printer.proofs.lists.close_list.Goals as goal

pub returns : goal.returns
unfolding close_list words
returns c =
    c.plan_signal.ensures _
    ▸ c.plan_ending.ensures
    ▸ c.end_body.ensures _
    ▸ c.plan_signal-2.ensures _
    ▸ c.plan_word.ensures _
    ▸ c.repeat_body.ensures _
    ▸ c.close_bracket.ensures _
