use Rattle.std.proofs.Common.{sym, ap, ◌∙◌}
use Rattle.formatter.specs.Program.{number_told}
use Rattle.vectors.proofs.Telling.{differing, agreeing}
use Rattle.vectors.proofs.replied.Goals as goal

pub returns-then-ne : goal.returns-then-ne
returns-then-ne c = differing c.respond-r.ensures c.ne.ensures c.if-ne.true

pub returns-in-None : goal.returns-in-None
returns-in-None c = agreeing c.respond-r.ensures c.ne.ensures c.if-ne.false (sym (ap number_told c.in-None.is))

pub returns-in-Some : goal.returns-in-Some
returns-in-Some c = agreeing c.respond-r.ensures c.ne.ensures c.if-ne.false (c.from.ensures ∙ sym (ap number_told c.in-Some.is))
