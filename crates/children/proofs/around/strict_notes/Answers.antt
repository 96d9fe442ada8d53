use Rattle.children.proofs.Arounds.{strict-stopped, strict-whole}
use Rattle.children.proofs.around.strict_notes.Goals as goal

pub returns-in-Some : goal.returns-in-Some
returns-in-Some c = search strict-stopped

pub returns-in-None : goal.returns-in-None
returns-in-None c = search strict-whole
