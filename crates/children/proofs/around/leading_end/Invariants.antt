use Rattle.children.specs.Stretch.{notes}
use mathlib.Core.Path.{◌≡◌}
use Rattle.tree.specs.Siblings.{Left}
use Rattle.children.proofs.Arounds.{Heading}
use Rattle.children.proofs.around.leading_end.Given as goal

abbrev pub invariant-loop-j : goal.invariant-loop-j
invariant-loop-j l = (Heading l.tree.index l.tree.image l.a l.b l.end) × (Left l.tree.image l.tree.index l.b l.j-iterator) × (l.j-iterator.next ≡ l.end) × (l.w ≡ notes)
