use native.Mathlib.Omega.{arith}
use mathlib.Core.Path.{refl}
use Rattle.formatter.proofs.Calls.{most-small, ready_by, few-sized, attempted-as}
use Rattle.formatter.proofs.serve.+attempt_sized.Goals as goal

pub attempt_sized-requires : goal.attempt_sized-requires
attempt_sized-requires t c = (omega (arith, c.decreases, c.requires.positive, few-sized _ c.requires.passed, c.element_count.ensures, c.if-size-element_count.true), (c.requires.passed, omega (arith, c.requires.positive)))

pub attempt-requires-in_default-clause-ready : goal.attempt-requires-in_default-clause-ready
attempt-requires-in_default-clause-ready t c = ready_by c.requires.passed refl (few-sized _ c.requires.passed) refl

pub returns-in_default : goal.returns-in_default
returns-in_default t c = attempted-as (λ l. omega (arith, most-small _ c.requires.passed)) c.attempt-in_default.ensures
