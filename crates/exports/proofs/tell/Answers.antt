use borrow.Author.Rules.{rules}
use mathlib.Core.Path.{refl}
use Rattle.exports.specs.Comment.{code, counts_after}
use Rattle.exports.proofs.tell.Goals as goal

pub returns-in-Some : goal.returns-in-Some
unfolding code counts_after
returns-in-Some c = rw c.in-Some.is (record { value = refl; counts_after = refl })

pub returns-in-None : goal.returns-in-None
unfolding code counts_after
returns-in-None c = search rules
