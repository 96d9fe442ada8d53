use borrow.Author.Tests.{not-true, not-false}
use Rattle.plan.proofs.Laws.{◌▸◌}
use Rattle.plan.specs.Words.{words}
use Rattle.printer.proofs.Chosen.{when_yes, when_no}
use mathlib.Core.Path.{ap}
use mathlib.Core.Bool.{not}
use Rattle.printer.proofs.pieces.plan_end.Goals as goal

pub returns-then-not-ended : goal.returns-then-not-ended
returns-then-not-ended c = λ s. when_no _ _ (not-true _ (ap not c.if-not-ended.true))

pub returns : goal.returns
unfolding words
returns c = λ s. when_yes _ _ (not-false _ (ap not c.if-not-ended.false)) (c.plan_word.ensures s ▸ c.plan_signal.ensures s)
