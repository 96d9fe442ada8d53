use Rattle.std.proofs.Common.{rules}
use Rattle.std.proofs.lemmas.Iterator.Consumers.{YieldsList-at, YieldsList-from_filter}
use Rattle.tree.proofs.Yielding.{kindly, siblings-yield, found-part, filter-last, last-yielded}
use Rattle.tree.proofs.access.Tree.last_of.Goals as goal

pub returns : goal.returns
returns c = found-part _ _ _ (last-yielded _ c.last.ensures.ran (YieldsList-from_filter _ (kindly _) (YieldsList-at c.filter.ensures.source (siblings-yield c.siblings.ensures.left c.siblings.ensures.starts)) c.filter.ensures.closure (λ x b q k. search rules))) (filter-last _ _)
