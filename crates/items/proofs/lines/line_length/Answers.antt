use native.Mathlib.Omega.{arith}
use Rattle.items.proofs.Decimals.{decimal-short}
use Rattle.items.proofs.Lengths.{described-small}
use Rattle.items.proofs.lines.line_length.Goals as goal

pub overflow_add-result : goal.overflow_add-result
overflow_add-result c =
    let s = c.args in omega (arith, c.described_length.ensures, c.decimal_length.ensures, decimal-short s.n (omega arith), described-small s.kind s.first s.second s.escapes (omega arith) (omega arith))

pub overflow_add-result-2 : goal.overflow_add-result-2
overflow_add-result-2 c =
    let s = c.args in omega (arith, c.described_length.ensures, c.decimal_length.ensures, decimal-short s.n (omega arith), described-small s.kind s.first s.second s.escapes (omega arith) (omega arith))
