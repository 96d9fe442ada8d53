use native.Mathlib.Omega.{arith}
use Rattle.plan.proofs.Steps.{signal-planned, carried-signal}
use Rattle.plan.proofs.Planner.plan_signal.Goals as goal

pub returns : goal.returns
returns c = λ s. signal-planned s c.args.x _ c.signal_kind.ensures (c.add_numbered.ensures s (carried-signal s 0 c.args.x c.signal_kind.ensures (omega arith)))
