use Rattle.std.proofs.Common.{refl, ap, arith}
use Rattle.tree.specs.Source.{Source}
use Rattle.tree.proofs.Children.{region-of}
use Rattle.children_cases.proofs.answer.answers.Goals as goal

-- What is read are the children of the first element.
pub plain-requires : goal.plain-requires
plain-requires c = region-of c.requires 0 (let n = rw (ap Source.image c.tree.view_is) at c.element_count.ensures in omega (arith, n)) refl c.end_at.ensures

pub plain-requires-2 : goal.plain-requires-2
plain-requires-2 c = region-of c.requires 0 (let n = rw (ap Source.image c.tree.view_is) at c.element_count.ensures in omega (arith, n)) refl c.end_at.ensures

pub trailing-requires : goal.trailing-requires
trailing-requires c = region-of c.requires 0 (let n = rw (ap Source.image c.tree.view_is) at c.element_count.ensures in omega (arith, n)) refl c.end_at.ensures

pub trailing-requires-2 : goal.trailing-requires-2
trailing-requires-2 c = region-of c.requires 0 (let n = rw (ap Source.image c.tree.view_is) at c.element_count.ensures in omega (arith, n)) refl c.end_at.ensures
