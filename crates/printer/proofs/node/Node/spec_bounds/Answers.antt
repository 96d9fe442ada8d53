use Rattle.printer.proofs.Looking.{last_found, first-has, last-part, or_has}
use Rattle.printer.proofs.Under.{at-region}
use Rattle.tree.proofs.Options.{either}
use Rattle.printer.proofs.node.Node.spec_bounds.Goals as goal

pub last_of-last-requires : goal.last_of-last-requires
last_of-last-requires c = search at-region

pub between-requires : goal.between-requires
between-requires c = record {
  starts = or_has _ _ (either _ _ c.or-start.ensures) (last-part _ _ (last_found _ _ _ c.start.ensures c.end.ensures _ c.kinds_of-members.ensures c.last_of-last.ensures)) (first-has _ _ c.first_of.ensures);
  ends = first-has _ _ c.first_of-2.ensures;
}
