use borrow.Author.Rules.{rules}
use native.Mathlib.Omega.{arith}
use Rattle.listing.proofs.Whole.{ready}
use Rattle.listing.proofs.Writes.{written_in, ◌▸◌, by, room-first, ◌⟫◌}
use Rattle.listing.proofs.write_listing.Goals as goal

pub put_head-requires : goal.put_head-requires
put_head-requires c =
    let e = ready _ _ _ c.requires (omega arith) (omega arith) (omega arith) (omega arith) in
    room-first _ e.room

pub put_lines-requires : goal.put_lines-requires
put_lines-requires c =
    let e = ready _ _ _ c.requires (omega arith) (omega arith) (omega arith) (omega arith) in
    record { known = e.each; room = e.room ⟫ c.put_head.ensures }

pub returns : goal.returns
returns c =
    let e = ready _ _ _ c.requires (omega arith) (omega arith) (omega arith) (omega arith) in
    let h = by e.whole (c.put_head.ensures ▸ c.put_lines.ensures) in
    written_in h (search (rules, h.lent))
