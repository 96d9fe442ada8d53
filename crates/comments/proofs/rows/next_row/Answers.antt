use native.Mathlib.Omega.{arith}
use Rattle.comments.proofs.Walks.{row_at}
use Rattle.comments.proofs.rows.next_row.Goals as goal

pub overflow_add-result : goal.overflow_add-result
overflow_add-result c = omega (arith, row_at _ _ _ c.requires c.line_end.ensures)

pub returns : goal.returns
returns c = omega (arith, c.line_end.ensures)
