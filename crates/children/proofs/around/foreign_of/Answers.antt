use Rattle.std.proofs.Common.{rules, ◌∙◌, refl, not}
use Rattle.std.proofs.lemmas.Iterator.Search.{find_from_yields_List}
use Rattle.tree.proofs.Yielding.{siblings-yield, found-part}
use Rattle.children.specs.Between.{is_kept}
use Rattle.children.proofs.Arounds.{foreign-found}
use Rattle.children.proofs.around.foreign_of.Goals as goal

pub returns : goal.returns
returns c = found-part _ _ _ (find_from_yields_List (λ x. not (is_kept x.kind)) c.find.new.self _ _ c.find.ensures.ran (siblings-yield c.siblings.ensures.left c.siblings.ensures.starts) (λ x b q k. search rules)) refl ∙ foreign-found _
