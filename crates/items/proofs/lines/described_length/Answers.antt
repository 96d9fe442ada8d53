use mathlib.Core.Path.{sym, ◌∙◌}
use native.Mathlib.Omega.{arith}
use Rattle.items.specs.declared.names.Table.TheVariants.{Kinds}
use Rattle.items.proofs.Lengths.{field-short, text-length, lines-length, number-length, bare-length}
use Rattle.items.proofs.lines.described_length.Goals as goal

pub overflow_add-result : goal.overflow_add-result
overflow_add-result c = omega (arith, c.field_length.ensures, field-short Kinds 1 c.args.second (omega arith))

pub overflow_add-result-then-kind-eq-TEXT : goal.overflow_add-result-then-kind-eq-TEXT
overflow_add-result-then-kind-eq-TEXT c = omega (arith, c.field_length.ensures, field-short Kinds 1 c.args.second (omega arith))

pub returns-then-kind-eq-TEXT : goal.returns-then-kind-eq-TEXT
returns-then-kind-eq-TEXT c = text-length _ _ _ _ c.if-kind-eq-TEXT.true c.field_length.ensures

pub returns-then-kind-first : goal.returns-then-kind-first
returns-then-kind-first c = c.field_length-then-kind-first.ensures ∙ sym (lines-length _ _ _ _ c.if-kind-eq-TEXT.false c.if-kind-first.true)

pub returns-then-has_number : goal.returns-then-has_number
returns-then-has_number c = c.field_length-then-has_number.ensures ∙ sym (number-length _ _ _ _ c.if-kind-eq-TEXT.false c.if-kind-first.false c.has_number.ensures c.if-has_number.true)

pub returns : goal.returns
returns c = c.name_length.ensures ∙ sym (bare-length _ _ _ _ c.if-kind-eq-TEXT.false c.if-kind-first.false c.has_number.ensures c.if-has_number.false)

pub overflow_add-result-then-kind-eq-TEXT-2 : goal.overflow_add-result-then-kind-eq-TEXT-2
overflow_add-result-then-kind-eq-TEXT-2 c = omega (arith, c.field_length.ensures, field-short Kinds 1 c.args.second (omega arith))
