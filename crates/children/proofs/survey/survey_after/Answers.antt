use Rattle.children.proofs.Surveying.{after-stopped, after-alone, after-barred, after-start, after-whole}
use mathlib.Core.Path.{ap}
use mathlib.Core.Bool.{not}
use Rattle.children.proofs.survey.survey_after.Goals as goal

pub returns-then-at_foreign : goal.returns-then-at_foreign
returns-then-at_foreign c = search after-stopped

pub returns-then-not-at_child : goal.returns-then-not-at_child
returns-then-not-at_child c = search after-alone

pub returns-then-not-nothing_waits : goal.returns-then-not-nothing_waits
returns-then-not-nothing_waits c = search after-barred

pub survey_from-requires : goal.survey_from-requires
survey_from-requires c = after-start c.lead-first.ensures c.args.t c.at_child.ensures (ap not c.if-not-at_child.false) c.nothing_waits.ensures c.end_at.ensures c.gap-next.ensures

pub returns : goal.returns
returns c = after-whole c.lead-first.ensures c.args.t c.at_child.ensures (ap not c.if-not-at_child.false) c.nothing_waits.ensures c.end_at.ensures c.gap-next.ensures (ap not c.if-not-nothing_waits.false) c.waiting_newlines-many.ensures c.survey_from.ensures
