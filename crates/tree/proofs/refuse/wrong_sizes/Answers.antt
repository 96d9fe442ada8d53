use mathlib.Core.Path.{sym, ◌∙◌}
use Rattle.tree.proofs.Sums.{sizes-node, sizes-right, sizes-wrong}
use Rattle.tree.proofs.refuse.wrong_sizes.Goals as goal

pub returns-then-is_some : goal.returns-then-is_some
returns-then-is_some c = sizes-node _ _ c.first_node_with_text-node.ensures (sym c.is_some.ensures ∙ c.if-is_some.true)

pub returns-then-sum_of_sizes-byte_count : goal.returns-then-sum_of_sizes-byte_count
returns-then-sum_of_sizes-byte_count c = sizes-right _ _ c.first_node_with_text-node.ensures (sym c.is_some.ensures ∙ c.if-is_some.false) c.sum_of_sizes.ensures c.byte_count.ensures c.if-sum_of_sizes-byte_count.true

pub returns : goal.returns
returns c = sizes-wrong _ _ c.first_node_with_text-node.ensures (sym c.is_some.ensures ∙ c.if-is_some.false) c.sum_of_sizes.ensures c.byte_count.ensures c.element_count-n.ensures c.if-sum_of_sizes-byte_count.false
