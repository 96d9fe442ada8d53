use Rattle.cases.proofs.Walk.{Passed}
use Rattle.cases.proofs.fields.behind_fields.Given as goal

abbrev pub invariant-loop : goal.invariant-loop
invariant-loop l = Passed l.s l.n l.counter l.rest
