use borrow.Author.Rules.{rules}
use Rattle.tree.proofs.Sums.{summing_none, summing_more, summing_all}
use Rattle.tree.proofs.refuse.sum_of_sizes.Goals as goal

pub loop-i-init : goal.loop-i-init
loop-i-init c = search summing_none

pub loop-i-preserved : goal.loop-i-preserved
loop-i-preserved c = search (summing_more, rules)

pub returns : goal.returns
returns c = search summing_all
