use Rattle.children.proofs.Arounds.{after-region, after-some, after_none}
use Rattle.children.proofs.around.trivia_after.Goals as goal

pub strict_notes-requires : goal.strict_notes-requires
strict_notes-requires c = search after-region

pub returns-in-Some : goal.returns-in-Some
returns-in-Some c = search after-some

pub returns-in-None : goal.returns-in-None
returns-in-None c = search after_none
