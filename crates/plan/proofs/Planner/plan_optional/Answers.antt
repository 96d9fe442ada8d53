use Rattle.plan.proofs.Laws.{by, idle}
use Rattle.plan.proofs.Texts.{word_none, word_some}
use Rattle.plan.proofs.Planner.plan_optional.Goals as goal

pub returns-then-w-eq0 : goal.returns-then-w-eq0
returns-then-w-eq0 c = λ s. by (word_none _ c.if-w-eq0.true) idle

pub returns : goal.returns
returns c = λ s. by (word_some _ c.if-w-eq0.false) (c.plan_word.ensures s)
