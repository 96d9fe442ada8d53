use mathlib.Core.Path.{sym}
use Rattle.items.proofs.Decimals.{one-long, digits-by_power}
use native.Mathlib.Omega.{arith}
use Rattle.items.proofs.lines.decimal_length.Goals as goal

pub returns-in-Some : goal.returns-in-Some
returns-in-Some c = digits-by_power _ _ c.in-Some.ensures.power_le c.in-Some.ensures.next_power_gt

pub returns-in-None : goal.returns-in-None
returns-in-None c = sym (one-long _ (omega (arith, c.in-None.ensures.none)))
