use Rattle.plan.proofs.Laws.{◌▸◌}
use Rattle.plan.specs.Words.{words}
use Rattle.printer.proofs.lists.open_binds.Goals as goal

pub returns : goal.returns
unfolding words
returns c = λ s. c.plan_word.ensures s ▸ c.plan_signal.ensures s ▸ c.plan_signal-2.ensures s
