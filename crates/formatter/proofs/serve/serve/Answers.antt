use mathlib.Core.Path.{refl, sym, ap, ◌∙◌}
use Rattle.tree.specs.Answer.{said}
use Rattle.tree.proofs.Passing.{passing}
use Rattle.formatter.proofs.Calls.{refused-by, lent-still}
use Rattle.formatter.proofs.serve.serve.Goals as goal

pub serve_passed-requires : goal.serve_passed-requires
serve_passed-requires c = (passing _ _ _ (ap said (sym c.in-Ok.is) ∙ c.refusal.ensures)).unrefused

pub returns-in-Err : goal.returns-in-Err
returns-in-Err c = lent-still refl refl refl (refused-by _ _ _ _ _ _ c.in-Err.is refl c.refusal.ensures)
