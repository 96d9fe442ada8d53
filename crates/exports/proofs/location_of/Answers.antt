use borrow.Author.Rules.{rules}
use borrow.Author.Tests.{ne_eqb}
use Rattle.exports.specs.Comment.{location}
use Rattle.exports.proofs.location_of.Goals as goal

pub returns-in-0 : goal.returns-in-0
unfolding location
returns-in-0 c = rw c.in-0.is

pub returns-in-1 : goal.returns-in-1
unfolding location
returns-in-1 c = rw c.in-1.is

pub returns-in_default : goal.returns-in_default
unfolding location
returns-in_default c = rw (ne_eqb c.args.n 0 (search rules), ne_eqb c.args.n 1 (search rules))
