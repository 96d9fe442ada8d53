use borrow.Author.Rules.{rules}
use native.Mathlib.Omega.{arith}
use Rattle.plan.proofs.Steps.{always-planned, lines-planned, carried-always, carried-lines}
use Rattle.plan.proofs.Planner.plan_if.Goals as goal

pub returns-in-Always : goal.returns-in-Always
returns-in-Always c = λ s. always-planned s c.args.t (search rules) (c.add_numbered.ensures s (carried-always s 0 (omega arith)))

pub returns-in-Lines : goal.returns-in-Lines
returns-in-Lines c = λ s. lines-planned s c.args.t _ (search rules) (c.add_numbered-in-Lines.ensures s (carried-lines s _))
