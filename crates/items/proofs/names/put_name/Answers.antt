use native.Mathlib.Omega.{arith}
use Rattle.text.proofs.Words.{start_le, end-in, word-part}
use Rattle.items.specs.Names.{name_at}
use Rattle.items.proofs.Naming.{names-few, part_room, part-stored}
use Rattle.items.proofs.names.put_name.Goals as goal

pub overflow_add-w : goal.overflow_add-w
overflow_add-w c = omega (arith, names-few c.args.t, c.requires.known)

pub slice_bounds-put_bytes-count : goal.slice_bounds-put_bytes-count
slice_bounds-put_bytes-count c = start_le _ _ c.requires.known c.start_of-start.ensures c.start_of-end.ensures

pub slice_bounds-put_bytes-start : goal.slice_bounds-put_bytes-start
slice_bounds-put_bytes-start c = start_le _ _ c.requires.known c.start_of-start.ensures c.start_of-end.ensures

pub slice_bounds-put_bytes-end : goal.slice_bounds-put_bytes-end
slice_bounds-put_bytes-end c = rw c.joined.ensures (end-in _ _ c.requires.known c.start_of-start.ensures c.start_of-end.ensures)

pub put_bytes-requires : goal.put_bytes-requires
unfolding name_at
put_bytes-requires c = rw c.joined.ensures (part_room (word-part _ _ c.requires.known c.start_of-start.ensures c.start_of-end.ensures) _ c.requires.room)

pub returns : goal.returns
unfolding name_at
returns c = part-stored (word-part _ _ c.requires.known c.start_of-start.ensures c.start_of-end.ensures) _ _ _ (rw c.joined.ensures at c.put_bytes.ensures)
