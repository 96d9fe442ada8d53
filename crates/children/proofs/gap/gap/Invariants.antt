use Prim.Native.Nat.{◌-◌}
use Rattle.children.proofs.Spanning.{Spanning}
use Rattle.children.proofs.gap.gap.Given as goal

abbrev pub invariant-loop-j : goal.invariant-loop-j
invariant-loop-j l = Spanning l.tree.index l.tree.image l.w l.z.loose l.after l.from l.b l.cut l.j l.started l.had l.tally

abbrev pub decreases-loop-j : goal.decreases-loop-j
decreases-loop-j l = l.b - l.j
