use mathlib.Core.Path.{refl, sym, ◌∙◌}
use Rattle.plan.proofs.Steps.{passed, array-full, added}
use Rattle.plan.proofs.Planner.add.Goals as goal

pub returns-then-halted : goal.returns-then-halted
returns-then-halted c = λ s. passed s _ _ (sym c.if-halted.true ∙ c.is_some-halted.ensures)

pub returns-then-self-at : goal.returns-then-self-at
returns-then-self-at c = λ s. array-full s _ (sym c.if-halted.false ∙ c.is_some-halted.ensures) _ c.if-self-at.true

pub returns : goal.returns
returns c = λ s. added s _ (sym c.if-halted.false ∙ c.is_some-halted.ensures) _ c.if-self-at.false refl refl
