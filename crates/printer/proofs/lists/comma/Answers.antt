use Rattle.plan.specs.Words.{words}
use Rattle.printer.proofs.Chosen.{comma-more, comma-last}
use Rattle.printer.proofs.lists.comma.Goals as goal

pub returns-then-more : goal.returns-then-more
unfolding words
returns-then-more c = λ s. comma-more _ _ c.if-more.true (c.plan_word.ensures s)

pub returns : goal.returns
returns c = λ s. comma-last _ _ c.if-more.false (c.trailing_comma.ensures s)
