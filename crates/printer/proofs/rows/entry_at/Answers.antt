use Rattle.printer.proofs.Tables.{coded_by}
use Rattle.printer.proofs.rows.entry_at.Goals as goal

pub returns : goal.returns
returns c = search coded_by
