use native.Mathlib.Omega.{arith}
use Rattle.listing.proofs.Head.{four-short, head-long}
use Rattle.listing.proofs.head_length.Goals as goal

pub overflow_add-result : goal.overflow_add-result
overflow_add-result c =
    let s = c.args.c in
    omega (arith, c.field_length-2.ensures, c.field_length.ensures, four-short s (omega arith) (omega arith) (omega arith) (omega arith))

pub overflow_add-result-2 : goal.overflow_add-result-2
overflow_add-result-2 c =
    let s = c.args.c in
    omega (arith, c.field_length-3.ensures, c.field_length-2.ensures, c.field_length.ensures, four-short s (omega arith) (omega arith) (omega arith) (omega arith))

pub overflow_add-result-3 : goal.overflow_add-result-3
overflow_add-result-3 c =
    let s = c.args.c in
    omega (arith, c.field_length-4.ensures, c.field_length-3.ensures, c.field_length-2.ensures, c.field_length.ensures, four-short s (omega arith) (omega arith) (omega arith) (omega arith))

pub overflow_add-result-4 : goal.overflow_add-result-4
overflow_add-result-4 c =
    let s = c.args.c in
    omega (arith, c.field_length-4.ensures, c.field_length-3.ensures, c.field_length-2.ensures, c.field_length.ensures, four-short s (omega arith) (omega arith) (omega arith) (omega arith))

pub returns : goal.returns
returns c = head-long _ c.field_length.ensures c.field_length-2.ensures c.field_length-3.ensures c.field_length-4.ensures
