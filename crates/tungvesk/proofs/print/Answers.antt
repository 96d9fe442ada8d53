use Rattle.formatter.proofs.Responses.{front}
use Rattle.tungvesk.proofs.print.Goals as goal

pub returns : goal.returns
returns g c = rw (front c.respond-r.ensures) at c.write_all.ensures.bytes
