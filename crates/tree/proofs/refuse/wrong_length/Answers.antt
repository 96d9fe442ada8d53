use native.Mathlib.Nat.{zero-add}
use Rattle.tree.proofs.Lengths.{wrong_as}
use Rattle.tree.proofs.refuse.wrong_length.Goals as goal

pub returns : goal.returns
returns c =
    wrong_as _ c.element_count.ensures c.place_of-end.ensures c.byte_count-b.ensures
    (rw c.new-r.ensures at c.left-no_count.ensures)
    (rw (c.skip.ensures, c.new-r.ensures, zero-add) at c.left-no_bytes.ensures)
    (rw (c.skip-2.ensures, c.new-r.ensures, zero-add) at c.left.ensures)
