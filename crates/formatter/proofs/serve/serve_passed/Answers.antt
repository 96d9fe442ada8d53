use Rattle.formatter.proofs.Calls.{after-full}
use Rattle.formatter.proofs.serve.serve_passed.Goals as goal

pub returns-in-Some : goal.returns-in-Some
returns-in-Some c = c.attempt_sized.ensures.answers _ c.in-Some.is

pub returns : goal.returns
returns c = after-full c.attempt_sized.ensures c.in_default.is (c.attempt_sized-2.ensures.answers _ c.unwrap.ensures)
