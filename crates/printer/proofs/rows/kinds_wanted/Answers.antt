use Rattle.printer.proofs.Tables.{want-kinds}
use Rattle.printer.proofs.rows.kinds_wanted.Goals as goal

pub returns : goal.returns
returns c = search want-kinds
