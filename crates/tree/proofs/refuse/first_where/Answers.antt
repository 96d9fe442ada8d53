use native.Mathlib.Omega.{arith}
use borrow.Author.Rules.{rules}
use Rattle.tree.proofs.FirstWhere.{numbering-none, numbering-more, numbering-met, numbering-all}
use Rattle.tree.proofs.Sums.{summing_none, summing_more}
use Rattle.tree.proofs.refuse.first_where.Goals as goal

pub loop-i-init : goal.loop-i-init
loop-i-init g c = record { sums = summing_none _; finds = numbering-none _ _ }

pub returns-then-offends : goal.returns-then-offends
returns-then-offends g c =
    numbering-met c.loop-i.invariant.finds (omega arith) (c.requires.1.1 _ _ _ (omega arith) c.loop-i.invariant.sums.so_far c.offends.ensures) c.if-offends.true

pub loop-i-preserved : goal.loop-i-preserved
loop-i-preserved g c =
    record {
      sums = search (summing_more, rules);
      finds = numbering-more c.loop-i.invariant.finds (omega arith) (c.requires.1.1 _ _ _ (omega arith) c.loop-i.invariant.sums.so_far c.offends.ensures) c.if-offends.false;
    }

pub returns : goal.returns
returns g c = numbering-all c.loop-i.invariant.finds (omega arith)
