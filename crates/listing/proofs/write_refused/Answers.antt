use Prim.Native.Nat.{ℕ, ◌<◌, ◌^◌}
use borrow.Author.Rules.{rules}
use native.Mathlib.Omega.{arith}
use Rattle.listing.specs.Listing.{refused_line}
use Rattle.listing.proofs.Refused.{refused-short}
use Rattle.listing.specs.Writes.{Room}
use Rattle.listing.proofs.Writes.{written_in, ◌▸◌, room-first, ◌⟫◌}
use Rattle.listing.proofs.write_refused.Goals as goal

room : (n e : ℕ) → n < 2 ^ 64 → e < 2 ^ 64 → Room (refused_line n e) 0
room n e h k = record { fits = omega (arith, refused-short n e h k) }

pub put_decimal-requires : goal.put_decimal-requires
unfolding refused_line
put_decimal-requires c = room-first _ (room c.args.number c.args.element (omega arith) (omega arith) ⟫ c.put_bytes.ensures)

pub put_byte-requires : goal.put_byte-requires
unfolding refused_line
put_byte-requires c = room-first _ (room c.args.number c.args.element (omega arith) (omega arith) ⟫ c.put_bytes.ensures ⟫ c.put_decimal.ensures)

pub put_decimal-requires-2 : goal.put_decimal-requires-2
unfolding refused_line
put_decimal-requires-2 c = room-first _ (room c.args.number c.args.element (omega arith) (omega arith) ⟫ c.put_bytes.ensures ⟫ c.put_decimal.ensures ⟫ c.put_byte.ensures)

pub put_byte-requires-2 : goal.put_byte-requires-2
unfolding refused_line
put_byte-requires-2 c = room c.args.number c.args.element (omega arith) (omega arith) ⟫ c.put_bytes.ensures ⟫ c.put_decimal.ensures ⟫ c.put_byte.ensures ⟫ c.put_decimal-2.ensures

pub returns : goal.returns
unfolding refused_line
returns c =
    let h = c.put_bytes.ensures ▸ c.put_decimal.ensures ▸ c.put_byte.ensures ▸ c.put_decimal-2.ensures ▸ c.put_byte-2.ensures in
    written_in h (search (rules, h.lent))
