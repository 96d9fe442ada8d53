use Rattle.std.proofs.Common.{refl}
use Rattle.tree.proofs.Yielding.{left-step, left-over}
use Rattle.printer.proofs.Under.{at-region}
use Rattle.printer.proofs.Marking.{marks-any, marking-none, marking-more, marking-all}
use Rattle.printer.proofs.node.Node.marks_in.Goals as goal

pub returns-then-not-asked : goal.returns-then-not-asked
returns-then-not-asked c = search marks-any

pub siblings-j-items-requires : goal.siblings-j-items-requires
siblings-j-items-requires c = search at-region

pub loop-j-init : goal.loop-j-init
loop-j-init c = rw c.into_iter-j-iterator.ensures.into_iter_gives (rw c.siblings-j-items.ensures.starts (marking-none c.args.self.at c.start-a.ensures c.end-b.ensures), c.siblings-j-items.ensures.left)

pub loop-j-preserved : goal.loop-j-preserved
loop-j-preserved c =
    let (K, L) = c.loop-j.invariant in
    let (m, f, g, n) = left-step L refl c.next.new.self _ c.in-Some.ensures.steps in
    (marking-more K m g (rw f at c.kind_at.ensures) c.marks_of-m.ensures, n)

pub returns : goal.returns
returns c = let (K, L) = c.loop-j.invariant in marking-all K _ c.start-a.ensures c.end-b.ensures (left-over L refl c.next.new.self c.in-None.ensures.steps)
