use Rattle.tree.specs.Image.{element_in}
use Rattle.tree.specs.Refusal.{misformed}
use Rattle.tree.proofs.refuse.first_misformed.Given as goal

abbrev pub ghost-first_where : goal.ghost-first_where
ghost-first_where a = λ i. misformed (element_in a.image.now i)
