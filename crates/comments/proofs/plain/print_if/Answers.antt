use Rattle.comments.proofs.Said.{opt_no}
use Rattle.comments.proofs.plain.print_if.Goals as goal

pub returns-else-so : goal.returns-else-so
returns-else-so c = opt_no _ _ c.if-so.false
