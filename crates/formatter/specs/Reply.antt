-- What the code answers, in document 01's numbers.
use Rattle.std.specs.Prelude.{Bool, cond, Ok, Err}
use Rattle.std.specs.declared.result.Result.{Result}
use Rattle.std.proofs.Math.Option.{none, some}
use Rattle.numbers.specs.declared.refusal.Refusal.{Refusal}
use Rattle.numbers.specs.Refusal.{number_of}
use Rattle.items.specs.declared.Count.{Count}
use Rattle.formatter.specs.declared.Listed.{Listed}
use Rattle.formatter.specs.Answer.{refused, done}
use Rattle.formatter.specs.Answer as spec

-- 'the answer is the number and the first offending element'
abbrev pub refused_for : Refusal → spec.Answer
refused_for r = refused (number_of r.reason) r.element.0

-- what the code answers with a listing, or without one that was not asked for
abbrev pub ListAnswer : Type 0
ListAnswer = Result Listed Refusal

-- what is answered where no listing was asked for
abbrev pub reply : Result Count Refusal → spec.Answer
reply (Ok c) = done c none
reply (Err r) = refused_for r

-- what is answered where one was
abbrev pub reply_listed : ListAnswer → spec.Answer
reply_listed (Ok l) = done l.counts (some l.bytes)
reply_listed (Err r) = refused_for r

-- what is answered where a listing was asked for or none
abbrev pub reply_to : Bool → ListAnswer → spec.Answer
reply_to listed (Ok l) = done l.counts (cond listed (some l.bytes) none)
reply_to listed (Err r) = refused_for r
