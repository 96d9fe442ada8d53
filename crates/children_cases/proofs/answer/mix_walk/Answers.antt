use Rattle.children_cases.proofs.Walk.{walk-less}
use Rattle.children_cases.proofs.answer.mix_walk.Goals as goal

pub loop-w-smaller : goal.loop-w-smaller
loop-w-smaller c = walk-less c.loop-w.invariant c.at_child.ensures c.loop-w-test.true c.end_at.ensures c.gap-s.ensures
