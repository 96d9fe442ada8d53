use Rattle.printer.specs.Lists.{behind_it}
use Rattle.printer.proofs.Chosen.{behind_of}
use Rattle.printer.proofs.lists.behind_it.Goals as goal

pub returns-in-Elements : goal.returns-in-Elements
unfolding behind_it
returns-in-Elements c = λ s. behind_of _ _ c.in-Elements.is (c.separator.ensures s)

pub returns-in-Arguments : goal.returns-in-Arguments
unfolding behind_it
returns-in-Arguments c = λ s. behind_of _ _ c.in-Arguments.is (c.separator_if.ensures s)

pub returns-in-Members : goal.returns-in-Members
unfolding behind_it
returns-in-Members c = λ s. behind_of _ _ c.in-Members.is (c.separator-in-Members.ensures s)

pub returns-in-Specs : goal.returns-in-Specs
unfolding behind_it
returns-in-Specs c = λ s. behind_of _ _ c.in-Specs.is (c.separator-in-Specs.ensures s)

pub returns-in-Binds : goal.returns-in-Binds
unfolding behind_it
returns-in-Binds c = λ s. behind_of _ _ c.in-Binds.is (c.plan_signal.ensures s)
