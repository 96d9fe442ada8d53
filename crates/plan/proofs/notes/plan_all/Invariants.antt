use Rattle.comments.specs.Place.{place}
use Rattle.tree.specs.Siblings.{Left}
use Rattle.plan.proofs.Noted.{Noting}
use Rattle.plan.proofs.notes.plan_all.Given as goal

abbrev pub invariant-loop-j : goal.invariant-loop-j
invariant-loop-j l = (Noting l.tree.image l.tree.index l.w l.a l.b (place l.loc) l.initial.planner l.planner l.j-iterator.next) × (Left l.tree.image l.tree.index l.b l.j-iterator)
