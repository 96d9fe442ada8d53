use Rattle.std.proofs.Common.{◌-◌}
use Rattle.children_cases.proofs.answer.mix_all.Given as goal

abbrev pub decreases-loop-j : goal.decreases-loop-j
decreases-loop-j l = l.b - l.j
