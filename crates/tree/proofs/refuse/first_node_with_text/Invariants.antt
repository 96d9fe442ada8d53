use Rattle.tree.specs.Image.{element_in}
use Rattle.tree.specs.Refusal.{node_with_text}
use Rattle.tree.proofs.refuse.first_node_with_text.Given as goal

abbrev pub ghost-first_where : goal.ghost-first_where
ghost-first_where a = λ i. node_with_text (element_in a.image.now i)
