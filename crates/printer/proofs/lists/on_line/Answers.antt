use Rattle.plan.proofs.Laws.{idle}
use Rattle.plan.specs.Words.{words}
use Rattle.printer.specs.Lists.{on_line}
use Rattle.printer.proofs.Chosen.{on_line_of}
use Rattle.printer.proofs.lists.on_line.Goals as goal

pub returns-in-Elements : goal.returns-in-Elements
unfolding on_line
returns-in-Elements c = λ s. on_line_of _ _ c.in-Elements.is (c.comma.ensures s)

pub returns-in-Arguments : goal.returns-in-Arguments
unfolding on_line
returns-in-Arguments c = λ s. on_line_of _ _ c.in-Arguments.is (c.comma-in-Arguments.ensures s)

pub returns-in-Members : goal.returns-in-Members
unfolding on_line
returns-in-Members c = λ s. on_line_of _ _ c.in-Members.is (c.trailing_comma.ensures s)

pub returns-in-Specs : goal.returns-in-Specs
unfolding on_line
returns-in-Specs c = λ s. on_line_of _ _ c.in-Specs.is idle

pub returns-in-Binds : goal.returns-in-Binds
unfolding on_line words
returns-in-Binds c = λ s. on_line_of _ _ c.in-Binds.is (c.plan_word.ensures s)
