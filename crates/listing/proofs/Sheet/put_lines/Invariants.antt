use Rattle.listing.proofs.Writing.{Lining}
use Rattle.listing.proofs.Sheet.put_lines.Given as goal

abbrev pub invariant-loop-i : goal.invariant-loop-i
invariant-loop-i l = Lining l.records l.texts l.n l.initial.self l.self l.i
