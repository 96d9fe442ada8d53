use Rattle.tree.specs.Image.{element_in}
use Rattle.tree.specs.Refusal.{not_utf8}
use Rattle.tree.proofs.refuse.first_not_utf8.Given as goal

abbrev pub ghost-first_where : goal.ghost-first_where
ghost-first_where a = λ i. not_utf8 (element_in a.image.now i)
