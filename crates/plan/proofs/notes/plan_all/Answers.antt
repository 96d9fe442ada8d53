use Rattle.std.proofs.Common.{refl}
use Rattle.tree.proofs.Yielding.{left-step, left-over}
use Rattle.plan.proofs.Noted.{noting_none, noting-few, noting-more, noting-all}
use Rattle.plan.proofs.notes.plan_all.Goals as goal

pub loop-j-init : goal.loop-j-init
loop-j-init c = rw c.into_iter-j-iterator.ensures.into_iter_gives (rw c.siblings-j-items.ensures.starts (noting_none _ _ _ c.requires), c.siblings-j-items.ensures.left)

pub plan_one-requires : goal.plan_one-requires
plan_one-requires c =
    let (K, L) = c.loop-j.invariant in
    let (m, f, g, n) = left-step L refl c.next.new.self _ c.in-Some.ensures.steps in
    rw f (noting-few K m)

pub loop-j-preserved : goal.loop-j-preserved
loop-j-preserved c =
    let (K, L) = c.loop-j.invariant in
    let (m, f, g, n) = left-step L refl c.next.new.self _ c.in-Some.ensures.steps in
    (noting-more K m (rw f at c.plan_one.ensures) g, n)

pub returns : goal.returns
returns c = let (K, L) = c.loop-j.invariant in noting-all K (left-over L refl c.next.new.self c.in-None.ensures.steps)
