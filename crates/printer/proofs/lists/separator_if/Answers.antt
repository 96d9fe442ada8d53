use Rattle.printer.proofs.Chosen.{when_yes, when_no}
use Rattle.printer.proofs.lists.separator_if.Goals as goal

pub returns-then-more : goal.returns-then-more
returns-then-more c = λ s. when_yes _ _ c.if-more.true (c.separator.ensures s)

pub returns-else-more : goal.returns-else-more
returns-else-more c = λ s. when_no _ _ c.if-more.false
