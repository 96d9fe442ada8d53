use mathlib.Core.Path.{◌∙◌, sym}
use Rattle.items.proofs.Emits.{plain_entry_lem, lines-plain}
use Rattle.items.proofs.plain_entry.Goals as goal

pub returns-then-kind-eq-IF_LINES : goal.returns-then-kind-eq-IF_LINES
returns-then-kind-eq-IF_LINES c = c.plain.ensures ∙ lines-plain _ _ c.if-kind-eq-IF_LINES.true

pub returns-then-has_number : goal.returns-then-has_number
returns-then-has_number c = c.plain-then-has_number.ensures ∙ plain_entry_lem _ _ c.requires.kind_from c.requires.kind_to c.if-kind-eq-IF_LINES.false (sym c.if-has_number.true ∙ c.has_number.ensures)

pub returns-else-has_number : goal.returns-else-has_number
returns-else-has_number c = c.plain-else-has_number.ensures ∙ plain_entry_lem _ _ c.requires.kind_from c.requires.kind_to c.if-kind-eq-IF_LINES.false (sym c.if-has_number.false ∙ c.has_number.ensures)
