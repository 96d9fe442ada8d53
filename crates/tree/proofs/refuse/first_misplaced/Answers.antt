use mathlib.Core.Path.{◌∙◌}
use native.Mathlib.Omega.{arith}
use Rattle.tree.proofs.FirstWhere.{numbered}
use Rattle.tree.proofs.Search.{placing_search}
use Rattle.tree.proofs.refuse.first_misplaced.Goals as goal

pub returns : goal.returns
returns c = c.first_where.ensures ∙ numbered (placing_search _) 0 _ (omega arith)
