use native.Mathlib.Omega.{arith}
use Rattle.comments.proofs.Walks.{row-less, skipping-more, skipping-stop, skipping_all}
use Rattle.comments.proofs.rows.first_row.Goals as goal

pub returns-then-l-gt0 : goal.returns-then-l-gt0
returns-then-l-gt0 c = record { first_row = skipping-stop c.loop-i.invariant c.loop-i-test.true c.row-l.ensures c.if-l-gt0.true; next = λ h. c.next_row-next.ensures }

pub loop-i-smaller : goal.loop-i-smaller
loop-i-smaller c = search row-less

pub loop-i-preserved : goal.loop-i-preserved
loop-i-preserved c = search skipping-more

pub returns : goal.returns
returns c = record { first_row = skipping_all c.loop-i.invariant c.loop-i-test.false; next = λ h. absurd (omega arith) }
