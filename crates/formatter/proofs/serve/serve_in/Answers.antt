use mathlib.Core.Path.{refl, ap, ◌∙◌}
use Rattle.std.specs.declared.result.Result.TheVariants.{Err}
use Rattle.formatter.proofs.Calls.{stops, answered-by, lent-still}
use Rattle.formatter.proofs.serve.serve_in.Goals as goal

pub serve_planned-requires : goal.serve_planned-requires
serve_planned-requires c = c.plan_tree.ensures.prints _ c.in-Ok.is

pub returns-in-Err-Stopped : goal.returns-in-Err-Stopped
returns-in-Err-Stopped c =
    let e = c.in-Err-Stopped in
    rw e.element-is (answered-by (lent-still refl refl refl (stops _ _ _ _ _ _ (c.plan_tree.ensures.stops _ (e.is ∙ ap Err e.field-0-is)))))
