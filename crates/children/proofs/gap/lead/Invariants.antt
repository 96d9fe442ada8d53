use Prim.Native.Nat.{◌-◌}
use Rattle.children.proofs.Leading.{Leading}
use Rattle.children.proofs.gap.lead.Given as goal

abbrev pub invariant-loop-j : goal.invariant-loop-j
invariant-loop-j l = Leading l.tree.index l.tree.image l.w l.z.loose l.from l.b l.j l.tally

abbrev pub decreases-loop-j : goal.decreases-loop-j
decreases-loop-j l = l.b - l.j
