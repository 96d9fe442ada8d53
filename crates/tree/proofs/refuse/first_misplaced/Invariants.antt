use Rattle.tree.specs.Refusal.{misplaced_in}
use Rattle.tree.proofs.refuse.first_misplaced.Given as goal

abbrev pub ghost-first_where : goal.ghost-first_where
ghost-first_where a = misplaced_in a.image.now
