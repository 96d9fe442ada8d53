use Rattle.printer.proofs.Tables.{rowed_by}
use Rattle.printer.proofs.rows.row_of.Goals as goal

pub returns : goal.returns
returns c = search rowed_by
