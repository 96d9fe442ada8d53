use Rattle.std.proofs.Common.{rules}
use Rattle.std.proofs.lemmas.Iterator.Search.{find_from_yields_List}
use Rattle.tree.specs.Class.{is_plus}
use Rattle.tree.proofs.Yielding.{siblings-yield, found-part, find-plus}
use Rattle.tree.proofs.access.Tree.plus_of.Goals as goal

pub returns : goal.returns
returns c = found-part _ _ _ (find_from_yields_List is_plus c.find.new.self _ _ c.find.ensures.ran (siblings-yield c.siblings.ensures.left c.siblings.ensures.starts) (λ x b q k. search rules)) (find-plus _)
