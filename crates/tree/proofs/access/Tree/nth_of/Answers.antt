use Rattle.std.proofs.Common.{rules}
use Rattle.std.proofs.lemmas.Iterator.Consumers.{YieldsList-at, YieldsList-from_filter, nth_from_yields_List}
use Rattle.tree.proofs.Yielding.{kindly, siblings-yield, found-part, filter-nth}
use Rattle.tree.proofs.access.Tree.nth_of.Goals as goal

pub returns : goal.returns
returns c = found-part _ _ _ (nth_from_yields_List _ c.nth.new.self _ c.nth.ensures.ran (YieldsList-from_filter _ (kindly _) (YieldsList-at c.filter.ensures.source (siblings-yield c.siblings.ensures.left c.siblings.ensures.starts)) c.filter.ensures.closure (λ x b q k. search rules))) (filter-nth _ _ _)
