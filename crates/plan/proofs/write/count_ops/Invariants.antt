use Rattle.std.specs.Prelude.{◌≡◌}
use Rattle.text.specs.Words.{joined_words}
use Rattle.plan.specs.Words.{words}
use Rattle.tree.specs.Source.{source_at}
use Rattle.plan.proofs.Written.{Counting}
use Rattle.plan.proofs.write.count_ops.Given as goal

abbrev pub invariant-loop-op : goal.invariant-loop-op
invariant-loop-op l = (l.all ≡ joined_words words) × Counting (source_at l.tree.image l.tree.index) l.ops l.n l.listed l.p l.op-index
