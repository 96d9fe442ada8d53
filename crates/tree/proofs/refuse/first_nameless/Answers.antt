use mathlib.Core.Path.{◌∙◌}
use native.Mathlib.Omega.{arith}
use Rattle.tree.proofs.FirstWhere.{numbered, nameless_search}
use Rattle.tree.proofs.refuse.first_nameless.Goals as goal

pub returns : goal.returns
returns c = c.first_where.ensures ∙ numbered (nameless_search _) 0 _ (omega arith)
