use Rattle.plan.proofs.Laws.{◌▸◌}
use Rattle.plan.specs.Words.{words, word_or_none}
use Rattle.printer.proofs.plan_whole.Goals as goal

pub returns : goal.returns
unfolding words word_or_none
returns c = c.plan_notes.ensures ▸ c.part.ensures ▸ c.plan_signal.ensures _ ▸ c.plan_notes-2.ensures
