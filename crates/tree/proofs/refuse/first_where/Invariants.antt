use Rattle.tree.specs.Tree.{count_n}
use Rattle.tree.proofs.FirstWhere.{Numbering}
use Rattle.tree.proofs.Sums.{Summing}
use Rattle.tree.proofs.refuse.first_where.Given as goal

abbrev pub invariant-loop-i : goal.invariant-loop-i
invariant-loop-i g l = record { sums : Summing l.image l.at l.i; finds : Numbering g.test (count_n l.image) l.i }
