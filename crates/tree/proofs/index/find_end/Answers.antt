use native.Mathlib.Omega.{arith}
use Rattle.tree.proofs.Ending.{ending-none, ending-all, ending-met, ending-more, ending-less}
use Rattle.tree.proofs.index.find_end.Goals as goal

pub loop-j-init : goal.loop-j-init
loop-j-init c =
    let p = c.requires in ending-none _ _ (omega (arith, p.count, p.within))

pub returns-then-level_in-level : goal.returns-then-level_in-level
returns-then-level_in-level c = ending-met c.loop-j.invariant c.requires.count c.loop-j-test.true c.level_in-level.ensures c.level_in.ensures c.if-level_in-level.true

pub loop-j-smaller : goal.loop-j-smaller
loop-j-smaller c = ending-less c.loop-j.invariant c.requires.count c.loop-j-test.true c.level_in-level.ensures c.level_in.ensures c.requires.indexed_from

pub loop-j-preserved : goal.loop-j-preserved
loop-j-preserved c = ending-more c.loop-j.invariant c.requires.count c.loop-j-test.true c.level_in-level.ensures c.level_in.ensures c.requires.indexed_from c.if-level_in-level.false

pub returns : goal.returns
returns c = ending-all c.loop-j.invariant c.requires.count c.loop-j-test.false
