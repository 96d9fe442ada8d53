use borrow.Author.Rules.{rules}
use Rattle.formatter.proofs.Room.{foresees}
use Rattle.formatter.proofs.serve.plan_tree.Goals as goal

pub returns : goal.returns
returns c =
    let h = rw c.new-planner.ensures at c.plan_source.ensures in
    let n = h.frame.lent in
    foresees c.requires.passed h (search rules) c.finish.ensures
