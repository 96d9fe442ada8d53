use mathlib.Core.Path.{refl}
use native.Mathlib.Omega.{arith}
use Rattle.tree.proofs.Filling.{filling_none, filling-start, filling-more}
use Rattle.tree.proofs.index.index.Goals as goal

pub loop-i-init : goal.loop-i-init
loop-i-init c = filling_none c.requires c.count_in-n.ensures refl c.put_entry.ensures

pub overflow_sub-start : goal.overflow_sub-start
overflow_sub-start c = omega (arith, filling-start c.loop-i.invariant c.loop-i-test.true, c.size_in-start.ensures)

pub loop-i-preserved : goal.loop-i-preserved
loop-i-preserved c = filling-more c.loop-i.invariant c.loop-i-test.true c.size_in-start.ensures c.kind_in-kind.ensures c.find_end-end.ensures c.put_entry-in-loop-i.ensures
