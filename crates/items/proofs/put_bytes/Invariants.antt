use Rattle.items.proofs.Stores.{Storing}
use Rattle.items.proofs.put_bytes.Given as goal

abbrev pub invariant-loop-i : goal.invariant-loop-i
invariant-loop-i l = Storing l.initial.buf l.at l.s l.buf l.i
