use borrow.Author.Rules.{rules}
use Rattle.plan.proofs.Steps.{note-planned, carried-note}
use Rattle.plan.proofs.Noted.{silent-planned}
use Rattle.comments.specs.Place.{place}
use Rattle.plan.proofs.Planner.plan_comment.Goals as goal

pub returns-then-is_silent : goal.returns-then-is_silent
returns-then-is_silent c = silent-planned _ _ _ c.kind_at-k.ensures c.text_at-s.ensures (c.is_silent.ensures _) c.if-is_silent.true

pub returns : goal.returns
returns c =
    let loc = place c.args.loc in
    note-planned _ loc _ _ c.note_kind.ensures (c.add_numbered.ensures _ (carried-note _ _ loc c.note_kind.ensures (search rules) c.kind_at-k.ensures c.text_at-s.ensures (c.is_silent.ensures _) c.if-is_silent.false))
