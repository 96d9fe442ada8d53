use Rattle.std.proofs.Common.{◌-◌}
use Rattle.children.specs.Spans.{Surveying}
use Rattle.children_cases.proofs.answer.mix_walk.Given as goal

-- a walk may go on from the gap
abbrev pub invariant-loop-w : goal.invariant-loop-w
invariant-loop-w l = Surveying l.tree.image l.tree.index l.z.to l.s 0

abbrev pub decreases-loop-w : goal.decreases-loop-w
decreases-loop-w l = l.z.to - l.s.to
