use Rattle.std.specs.Prelude.{◌-◌, ◌+◌, ◌*◌}
use Rattle.printer.proofs.Rowing.{Eaching, Rowing}
use Rattle.plan.specs.Words.{word_at}
use Rattle.printer.specs.Rows.{want_at}
use Rattle.printer.proofs.Walking.{Walking, Valuing}
use Rattle.items.specs.Item.{condition_test}
use Rattle.tree.specs.Siblings.{Left}
use Rattle.printer.specs.Lists.{on_line, behind_it}
use Rattle.printer.specs.Under.{under}
use Rattle.printer.specs.Walked.{around, stated}
use Rattle.printer.proofs.Under.{size}
use Rattle.printer.proofs.printers.+printers.Given as goal

-- six times the elements under the node, and a rank: a printer that calls another at the same node has the higher one
abbrev pub decreases-args : goal.decreases-args
decreases-args l = size l.n.tree.now.index l.n.element.0 * 6 + 3

abbrev pub decreases-binds : goal.decreases-binds
decreases-binds l = size l.n.tree.now.index l.n.element.0 * 6 + 3

abbrev pub decreases-body : goal.decreases-body
decreases-body l = size l.n.tree.now.index l.n.element.0 * 6 + 3

abbrev pub decreases-child : goal.decreases-child
decreases-child l = size l.n.tree.now.index l.n.element.0 * 6

abbrev pub decreases-comp : goal.decreases-comp
decreases-comp l = size l.n.tree.now.index l.n.element.0 * 6 + 4

abbrev pub decreases-each : goal.decreases-each
decreases-each l = size l.n.tree.now.index l.n.element.0 * 6 + 1

abbrev pub decreases-expr : goal.decreases-expr
decreases-expr l = size l.n.tree.now.index l.n.element.0 * 6 + 3

abbrev pub decreases-items : goal.decreases-items
decreases-items l = size l.n.tree.now.index l.n.element.0 * 6 + 2

abbrev pub decreases-kids : goal.decreases-kids
decreases-kids l = size l.n.tree.now.index l.n.element.0 * 6 + 1

abbrev pub decreases-list : goal.decreases-list
decreases-list l = size l.n.tree.now.index l.n.element.0 * 6 + 3

abbrev pub decreases-local : goal.decreases-local
decreases-local l = size l.n.tree.now.index l.n.element.0 * 6 + 4

abbrev pub decreases-lone : goal.decreases-lone
decreases-lone l = size l.n.tree.now.index l.n.element.0 * 6

abbrev pub decreases-node : goal.decreases-node
decreases-node l = size l.n.tree.now.index l.n.element.0 * 6 + 5

abbrev pub decreases-one : goal.decreases-one
decreases-one l = size l.n.tree.now.index l.n.element.0 * 6

abbrev pub decreases-part : goal.decreases-part
decreases-part l = size l.n.tree.now.index l.n.element.0 * 6

abbrev pub decreases-piece : goal.decreases-piece
decreases-piece l = size l.n.tree.now.index l.n.element.0 * 6 + 2

abbrev pub decreases-row : goal.decreases-row
decreases-row l = size l.n.tree.now.index l.n.element.0 * 6 + 3

abbrev pub decreases-specs : goal.decreases-specs
decreases-specs l = size l.n.tree.now.index l.n.element.0 * 6 + 2

abbrev pub decreases-stmt : goal.decreases-stmt
decreases-stmt l = size l.n.tree.now.index l.n.element.0 * 6

abbrev pub decreases-stmts : goal.decreases-stmts
decreases-stmts l = size l.n.tree.now.index l.n.element.0 * 6 + 1

abbrev pub decreases-values : goal.decreases-values
decreases-values l = size l.n.tree.now.index l.n.element.0 * 6

abbrev pub invariant-each-loop-j : goal.invariant-each-loop-j
invariant-each-loop-j l = (Eaching l.n.tree.now.image l.n.tree.now.index l.n.element.0 (want_at l.x.want).class (word_at l.x.word) l.ended l.initial.planner l.planner l.j-iterator.next) × (Left l.n.tree.now.image l.n.tree.now.index l.b l.j-iterator)

abbrev pub invariant-kids-loop-z : goal.invariant-kids-loop-z
invariant-kids-loop-z l = Walking l.n.tree.now.image l.n.tree.now.index l.n.element.0 l.w l.z.loose l.z.to (around (under l.n.tree.now.image l.n.element.0) (on_line l.style (condition_test l.t)) (behind_it l.style (condition_test l.t))) l.initial.s l.initial.planner l.planner l.s

abbrev pub decreases-kids-loop-z : goal.decreases-kids-loop-z
decreases-kids-loop-z l = l.z.to - l.s.to

abbrev pub invariant-row-loop-k : goal.invariant-row-loop-k
invariant-row-loop-k l = Rowing l.n.tree.now.image l.n.tree.now.index l.n.element.0 l.m l.k-end l.initial.planner l.planner l.k

abbrev pub invariant-stmts-loop-z : goal.invariant-stmts-loop-z
invariant-stmts-loop-z l = Walking l.n.tree.now.image l.n.tree.now.index l.n.element.0 l.w l.z.loose l.z.to (stated (under l.n.tree.now.image l.n.element.0)) l.initial.s l.initial.planner l.planner l.s

abbrev pub decreases-stmts-loop-z : goal.decreases-stmts-loop-z
decreases-stmts-loop-z l = l.z.to - l.s.to

abbrev pub invariant-values-loop-z : goal.invariant-values-loop-z
invariant-values-loop-z l = Valuing l.n.tree.now.image l.n.tree.now.index l.w l.z l.initial.s l.initial.planner l.planner l.s

abbrev pub decreases-values-loop-z : goal.decreases-values-loop-z
decreases-values-loop-z l = l.z.to - l.s.to
