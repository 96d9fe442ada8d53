use mathlib.Core.Path.{◌∙◌}
use native.Mathlib.Omega.{arith}
use Rattle.tree.proofs.FirstWhere.{numbered, where_search}
use Rattle.tree.proofs.refuse.first_string_block.Goals as goal

pub returns : goal.returns
returns c = c.first_where.ensures ∙ numbered (where_search _ _) 0 _ (omega arith)
