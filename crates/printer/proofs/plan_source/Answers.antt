use mathlib.Core.Path.{refl}
use Rattle.plan.proofs.Laws.{by}
use Rattle.printer.proofs.Looking.{first-has, none_has, ends-has}
use Rattle.printer.proofs.Sources.{root_at, before-placed, after-placed, source-before, source-behind, source-whole}
use Rattle.printer.proofs.plan_source.Goals as goal

pub invariant_of-root : goal.invariant_of-root
invariant_of-root c = record { at = root_at c.requires }

pub trivia_before-requires : goal.trivia_before-requires
trivia_before-requires c = ends-has (root_at c.requires) c.start-a.ensures c.end-b.ensures (first-has _ _ c.first_of-e.ensures) (none_has _ refl)

pub trivia_after-requires : goal.trivia_after-requires
trivia_after-requires c = ends-has (root_at c.requires) c.start-a.ensures c.end-b.ensures (first-has _ _ c.first_of-e.ensures) (none_has _ refl)

pub returns-in-Err-default : goal.returns-in-Err-default
returns-in-Err-default c = by (source-before c.requires c.start-a.ensures c.end-b.ensures c.first_of-e.ensures _ _ c.trivia_before.ensures c.trivia_after.ensures c.in-Err-default.is-0) (c.stop_at-in-Err-default.ensures.plans _)

pub returns-in_default-Err : goal.returns-in_default-Err
returns-in_default-Err c = by (source-behind c.requires c.start-a.ensures c.end-b.ensures c.first_of-e.ensures _ _ c.trivia_before.ensures c.trivia_after.ensures c.in_default-Err.is-0 c.in_default-Err.is-1) (c.stop_at.ensures.plans _)

pub plan_whole-requires-clause-has : goal.plan_whole-requires-clause-has
plan_whole-requires-clause-has c = first-has _ _ c.first_of-e.ensures

pub plan_whole-requires-clause-before : goal.plan_whole-requires-clause-before
plan_whole-requires-clause-before c = (before-placed c.requires c.start-a.ensures c.end-b.ensures c.first_of-e.ensures _ _ c.trivia_before.ensures c.trivia_after.ensures c.in-Ok-Ok.is-0).region

pub plan_whole-requires-clause-after : goal.plan_whole-requires-clause-after
plan_whole-requires-clause-after c = (after-placed c.requires c.start-a.ensures c.end-b.ensures c.first_of-e.ensures _ _ c.trivia_before.ensures c.trivia_after.ensures c.in-Ok-Ok.is-1).region

pub returns-in-Ok-Ok : goal.returns-in-Ok-Ok
returns-in-Ok-Ok c = by (source-whole c.requires c.start-a.ensures c.end-b.ensures c.first_of-e.ensures _ _ c.trivia_before.ensures c.trivia_after.ensures c.in-Ok-Ok.is-0 c.in-Ok-Ok.is-1) c.plan_whole.ensures
