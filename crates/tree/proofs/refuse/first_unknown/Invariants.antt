use Rattle.tree.specs.Image.{element_in}
use Rattle.tree.specs.Refusal.{unknown_kind}
use Rattle.tree.proofs.refuse.first_unknown.Given as goal

abbrev pub ghost-first_where : goal.ghost-first_where
ghost-first_where a = λ i. unknown_kind (element_in a.image.now i)
