use mathlib.Core.Path.{sym, ◌∙◌}
use borrow.Author.Tests.{eqb-true, not-true, not-false}
use Rattle.tree.specs.Refusal.{unknown_kind}
use Rattle.tree.proofs.Passing.{or_false}
use Rattle.tree.proofs.Cleaning.{sound-node, sound-token}
use mathlib.Core.Path.{ap}
use mathlib.Core.Bool.{not}
use Rattle.tree.proofs.clean.is_sound.Goals as goal

pub returns-then-kind-lt-FIRST_TOKEN : goal.returns-then-kind-lt-FIRST_TOKEN
unfolding unknown_kind
returns-then-kind-lt-FIRST_TOKEN c = λ h. sound-node _ (sym c.is_unknown.ensures ∙ (or_false c.is_unknown.result _ c.if-is_unknown-kind.false).0) c.if-kind-lt-FIRST_TOKEN.true (eqb-true _ 0 h)

pub returns : goal.returns
unfolding unknown_kind
returns c = λ h. let (u, b) = or_false c.is_unknown.result _ c.if-is_unknown-kind.false in sound-token _ (sym c.is_unknown.ensures ∙ u) c.if-kind-lt-FIRST_TOKEN.false b (c.is_valid.ensures (not-false _ (ap not c.if-not-is_valid.false))) (sym c.is_misformed.ensures ∙ not-true _ h)
