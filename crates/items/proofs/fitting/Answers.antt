use native.Mathlib.Omega.{arith}
use Rattle.items.specs.Names.{line_length}
use Rattle.items.proofs.Decimals.{decimal-short}
use Rattle.items.proofs.Lengths.{described-small}
use Rattle.items.proofs.Fits.{counted-most}
use Rattle.items.proofs.Numbers.{grown-full, room-line}
use Rattle.items.proofs.fitting.Goals as goal

pub overflow_add-lines : goal.overflow_add-lines
overflow_add-lines c =
    let s = c.args in
    let e = s.e in
    omega (arith, c.line_if-line.ensures, counted-most s.p.listed (line_length s.p.records e.kind e.first e.second e.escapes), decimal-short s.p.records (omega arith), described-small e.kind e.first e.second e.escapes (omega arith) (omega arith))

pub returns-then-max-ge-LIMIT : goal.returns-then-max-ge-LIMIT
returns-then-max-ge-LIMIT c = grown-full _ _ (rw (c.max.ensures, c.line_if-line.ensures) at c.max-2.ensures) c.if-max-ge-LIMIT.true

pub returns : goal.returns
returns c = room-line _ _ c.line_if-line.ensures (omega arith) (omega arith) (rw (c.max.ensures, c.line_if-line.ensures) at c.max-2.ensures) c.if-max-ge-LIMIT.false
