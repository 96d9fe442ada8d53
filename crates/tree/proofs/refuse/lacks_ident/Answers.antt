use mathlib.Core.Bool.{true, false}
use Rattle.tree.proofs.Search.{walking_on, walking-met, walking-all_lem, ident-none, ident-here, ident-later, ident_over}
use Rattle.tree.proofs.refuse.lacks_ident.Goals as goal

pub returns-then-level_in-name : goal.returns-then-level_in-name
returns-then-level_in-name c = walking-met true c.loop-j.invariant (search ident-none)

pub returns-then-ident_under : goal.returns-then-ident_under
returns-then-ident_under c = walking-met false c.loop-j.invariant (search ident-here)

pub loop-j-preserved : goal.loop-j-preserved
loop-j-preserved c = walking_on c.loop-j.invariant c.count_in-n.ensures c.loop-j-test.true (search ident-later)

pub returns : goal.returns
returns c = search (walking-all_lem, ident_over)
