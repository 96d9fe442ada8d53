use Prim.Native.Nat.{◌-◌}
use Rattle.children.proofs.Surveying.{Outlining}
use Rattle.children.proofs.survey.survey_from.Given as goal

abbrev pub invariant-loop-w : goal.invariant-loop-w
invariant-loop-w l = Outlining l.tree.index l.tree.image l.w l.z.loose l.z.to l.initial.s l.before l.already l.s l.children l.many l.n

abbrev pub decreases-loop-w : goal.decreases-loop-w
decreases-loop-w l = l.z.to - l.s.to
