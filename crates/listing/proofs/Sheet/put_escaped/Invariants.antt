use Rattle.listing.proofs.Writing.{Escaping}
use Rattle.listing.proofs.Sheet.put_escaped.Given as goal

abbrev pub invariant-loop-b : goal.invariant-loop-b
invariant-loop-b l = Escaping l.s l.initial.self l.self l.b-index
