use native.Mathlib.Omega.{arith}
use Rattle.items.proofs.Decimals.{decimal-short}
use Rattle.items.proofs.Lengths.{name-short}
use Rattle.items.proofs.lines.field_length.Goals as goal

pub overflow_add-result : goal.overflow_add-result
overflow_add-result c = omega (arith, c.name_length.ensures, name-short c.args.t c.args.w)

pub overflow_add-result-2 : goal.overflow_add-result-2
overflow_add-result-2 c = omega (arith, c.decimal_length.ensures, c.name_length.ensures, name-short c.args.t c.args.w, decimal-short c.args.n (omega arith))
