use borrow.Author.Rules.{rules}
use native.Mathlib.Omega.{arith}
use Rattle.listing.proofs.Items.{shown-text, shown-lines, shown-number, shown-name}
use Rattle.listing.proofs.Writes.{by, room_as}
use Rattle.items.specs.Names.{other_names, names_of}
use Rattle.listing.proofs.Sheet.put_item.Goals as goal

pub put_text-requires : goal.put_text-requires
unfolding other_names names_of
put_text-requires c = record { inside = c.requires.known.inside c.if-kind-eq-TEXT.true; room = room_as (shown-text _ _ _ _ c.if-kind-eq-TEXT.true) c.requires.room }

pub returns-then-kind-eq-TEXT : goal.returns-then-kind-eq-TEXT
unfolding other_names names_of
returns-then-kind-eq-TEXT c = by (shown-text _ _ _ _ c.if-kind-eq-TEXT.true) c.put_text.ensures

pub put_field-requires : goal.put_field-requires
unfolding other_names names_of
put_field-requires c = record { known = search rules; room = room_as (shown-lines _ _ _ _ c.if-kind-eq-TEXT.false c.if-kind-first.true) c.requires.room }

pub returns-then-kind-first : goal.returns-then-kind-first
unfolding other_names names_of
returns-then-kind-first c = by (shown-lines _ _ _ _ c.if-kind-eq-TEXT.false c.if-kind-first.true) c.put_field.ensures

pub put_field-requires-then-has_number : goal.put_field-requires-then-has_number
unfolding other_names names_of
put_field-requires-then-has_number c = record { known = omega (arith, c.requires.known.known); room = room_as (shown-number _ _ _ _ c.if-kind-eq-TEXT.false c.if-kind-first.false c.has_number.ensures c.if-has_number.true) c.requires.room }

pub returns-then-has_number : goal.returns-then-has_number
unfolding other_names names_of
returns-then-has_number c = by (shown-number _ _ _ _ c.if-kind-eq-TEXT.false c.if-kind-first.false c.has_number.ensures c.if-has_number.true) c.put_field-then-has_number.ensures

pub put_name-requires : goal.put_name-requires
unfolding other_names names_of
put_name-requires c = record { known = omega (arith, c.requires.known.known); room = room_as (shown-name _ _ _ _ c.if-kind-eq-TEXT.false c.if-kind-first.false c.has_number.ensures c.if-has_number.false) c.requires.room }

pub returns-else-has_number : goal.returns-else-has_number
unfolding other_names names_of
returns-else-has_number c = by (shown-name _ _ _ _ c.if-kind-eq-TEXT.false c.if-kind-first.false c.has_number.ensures c.if-has_number.false) c.put_name.ensures
