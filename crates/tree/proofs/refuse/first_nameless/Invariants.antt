use Rattle.tree.specs.Refusal.{nameless_in}
use Rattle.tree.proofs.refuse.first_nameless.Given as goal

abbrev pub ghost-first_where : goal.ghost-first_where
ghost-first_where a = nameless_in a.image.now
