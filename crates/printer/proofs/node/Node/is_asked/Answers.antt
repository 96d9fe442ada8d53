use Rattle.printer.proofs.Looking.{asked_by, asked-always}
use Rattle.printer.proofs.node.Node.is_asked.Goals as goal

pub returns-then-not-x : goal.returns-then-not-x
returns-then-not-x c = search asked-always

pub returns : goal.returns
returns c = search asked_by
