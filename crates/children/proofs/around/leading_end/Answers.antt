use Rattle.std.proofs.Common.{◌∙◌, sym}
use Rattle.tree.proofs.Yielding.{left-step, left-over}
use Rattle.children.proofs.Arounds.{heading_none, heading-stop, heading-more, heading-all}
use Rattle.children.proofs.around.leading_end.Goals as goal

pub loop-j-init : goal.loop-j-init
loop-j-init c = rw c.into_iter-j-iterator.ensures.into_iter_gives (heading_none c.requires, c.siblings-j-items.ensures.left, c.siblings-j-items.ensures.starts, c.note_kinds-w.ensures)

pub returns-then-not-is : goal.returns-then-not-is
returns-then-not-is c =
    let (K, L, e, z) = c.loop-j.invariant in
    let (m, f, g, n) = left-step L e c.next.new.self _ c.in-Some.ensures.steps in
    heading-stop K m z (rw f at c.kind_at.ensures) c.is.ensures c.if-not-is.true

pub loop-j-preserved : goal.loop-j-preserved
loop-j-preserved c =
    let (K, L, e, z) = c.loop-j.invariant in
    let (m, f, g, n) = left-step L e c.next.new.self _ c.in-Some.ensures.steps in
    let h = rw f at c.end_at-end.ensures in
    (heading-more K m z (rw f at c.kind_at.ensures) c.is.ensures c.if-not-is.false h, n, g ∙ sym h, z)

pub returns : goal.returns
returns c = let (K, L, e, z) = c.loop-j.invariant in heading-all K (left-over L e c.next.new.self c.in-None.ensures.steps)
