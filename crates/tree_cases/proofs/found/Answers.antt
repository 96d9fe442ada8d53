use Rattle.std.proofs.Common.{refl, ap, arith}
use Rattle.tree.specs.Source.{Source}
use Rattle.tree.proofs.Children.{region-of}
use Rattle.tree_cases.proofs.found.Goals as goal

-- What is looked through are the children of the node.
pub nth_of-requires : goal.nth_of-requires
nth_of-requires c = region-of c.requires _ (let n = rw (ap Source.image c.tree.view_is) at c.element_count.ensures in omega (arith, n)) refl c.end_at-b.ensures

pub last_of-requires : goal.last_of-requires
last_of-requires c = region-of c.requires _ (let n = rw (ap Source.image c.tree.view_is) at c.element_count.ensures in omega (arith, n)) refl c.end_at-b.ensures

pub plus_of-requires : goal.plus_of-requires
plus_of-requires c = region-of c.requires _ (let n = rw (ap Source.image c.tree.view_is) at c.element_count.ensures in omega (arith, n)) refl c.end_at-b.ensures
