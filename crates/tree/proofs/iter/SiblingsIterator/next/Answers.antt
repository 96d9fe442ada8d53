use Rattle.tree.specs.Index.{end_at}
use Rattle.tree.proofs.Yielding.{forward-next, forward-less}
use Rattle.tree.proofs.iter.SiblingsIterator.next.Goals as goal

pub invariant_of-self : goal.invariant_of-self
unfolding end_at
invariant_of-self c = search forward-next

pub returns-clause-steps : goal.returns-clause-steps
unfolding end_at
returns-clause-steps c = search

pub returns-clause-goes : goal.returns-clause-goes
unfolding end_at
returns-clause-goes c = search forward-less
