use Rattle.tree.specs.Image.{element_in}
use Rattle.tree.specs.Refusal.{string_block}
use Rattle.tree.proofs.refuse.first_string_block.Given as goal

abbrev pub ghost-first_where : goal.ghost-first_where
ghost-first_where a = λ i. string_block (element_in a.image.now i)
