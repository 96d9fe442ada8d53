use Rattle.std.proofs.Common.{arith}
use Rattle.cases.proofs.Storing.{no_room, room, room_end}
use Rattle.cases.proofs.store.put_all.Goals as goal

pub returns-then-buffer-at-clause-buffer_after : goal.returns-then-buffer-at-clause-buffer_after
returns-then-buffer-at-clause-buffer_after c = (no_room _ _ _ (omega arith)).0

pub returns-then-buffer-at-clause-value : goal.returns-then-buffer-at-clause-value
returns-then-buffer-at-clause-value c = (no_room c.args.buffer.now c.args.s.now c.args.at (omega arith)).1

pub returns-then-buffer-at-2-clause-buffer_after :
    goal.returns-then-buffer-at-2-clause-buffer_after
returns-then-buffer-at-2-clause-buffer_after c = (no_room _ _ _ (omega arith)).0

pub returns-then-buffer-at-2-clause-value : goal.returns-then-buffer-at-2-clause-value
returns-then-buffer-at-2-clause-value c = (no_room c.args.buffer.now c.args.s.now c.args.at (omega arith)).1

pub returns-clause-buffer_after : goal.returns-clause-buffer_after
returns-clause-buffer_after c = room _ _ _ (omega arith) (omega arith) c.copy_from_slice.ensures.after

pub returns-clause-value : goal.returns-clause-value
returns-clause-value c = room_end _ _ _ (omega arith)
