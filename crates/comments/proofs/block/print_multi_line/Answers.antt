use mathlib.Core.Path.{sym}
use native.Mathlib.Omega.{arith}
use Rattle.items.proofs.Laws.{unsaid}
use Rattle.comments.proofs.Said.{same, first-within, multi-none, multi-some}
use Rattle.comments.proofs.Walks.{row_on, second_at}
use Rattle.comments.proofs.block.print_multi_line.Goals as goal

pub returns-then-rest-eq0 : goal.returns-then-rest-eq0
returns-then-rest-eq0 c = same (sym (multi-none _ _ _ _ _ c.inside-body.ensures c.starts_with-doc.ensures c.after_star.ensures _ c.trim_end-rest.ensures c.if-rest-eq0.true)) unsaid

pub overflow_sub-second : goal.overflow_sub-second
overflow_sub-second c =
    let e = c.first_row-first.ensures in
    let h = first-within _ _ c.trim_end-rest.ensures c.if-rest-eq0.false _ e.first_row in
    omega (arith, row_on _ _ _ h (e.next h))

pub invariant_of-block : goal.invariant_of-block
invariant_of-block c =
    let e = c.first_row-first.ensures in
    let h = first-within _ _ c.trim_end-rest.ensures c.if-rest-eq0.false _ e.first_row in
    record { parted = second_at _ _ _ _ (e.next h) c.behind.ensures }

pub returns : goal.returns
returns c = same (multi-some _ _ _ _ _ c.inside-body.ensures c.starts_with-doc.ensures c.after_star.ensures _ _ _ c.trim_end-rest.ensures c.if-rest-eq0.false c.first_row-first.ensures.first_row c.behind.ensures) c.print_block.ensures
