use Rattle.children.proofs.Arounds.{before-region, before-some, before-none}
use Rattle.children.proofs.around.trivia_before.Goals as goal

pub strict_notes-requires : goal.strict_notes-requires
strict_notes-requires c = search before-region

pub returns-in-Some : goal.returns-in-Some
returns-in-Some c = search before-some

pub returns-in-None : goal.returns-in-None
returns-in-None c = search before-none
