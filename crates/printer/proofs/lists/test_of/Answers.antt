use Rattle.printer.proofs.Chosen.{test-many, test-lines}
use Rattle.printer.proofs.lists.test_of.Goals as goal

pub returns-then-many : goal.returns-then-many
returns-then-many c = test-many _ _ c.if-many.true

pub returns : goal.returns
returns c = test-lines _ _ c.if-many.false c.first_mark.ensures
