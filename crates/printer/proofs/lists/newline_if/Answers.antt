use Rattle.printer.proofs.Chosen.{when_yes, when_no}
use Rattle.printer.proofs.lists.newline_if.Goals as goal

pub returns-then-b : goal.returns-then-b
returns-then-b c = λ s. when_yes _ _ c.if-b.true (c.plan_signal.ensures s)

pub returns-else-b : goal.returns-else-b
returns-else-b c = λ s. when_no _ _ c.if-b.false
