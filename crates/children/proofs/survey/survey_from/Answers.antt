use Rattle.children.proofs.Surveying.{outlining-less, outlining-more, outlining-all, outlining-stopped}
use Rattle.children.proofs.survey.survey_from.Goals as goal

pub loop-w-smaller : goal.loop-w-smaller
loop-w-smaller c = outlining-less c.loop-w.invariant c.at_child.ensures c.loop-w-test.true _ c.end_at.ensures _ c.gap-s.ensures

pub loop-w-preserved : goal.loop-w-preserved
loop-w-preserved c = outlining-more c.loop-w.invariant c.at_child.ensures c.loop-w-test.true _ c.end_at.ensures _ c.gap-s.ensures _ c.newlines_at-n-in-loop-w.ensures

pub returns-then-at_foreign : goal.returns-then-at_foreign
returns-then-at_foreign c = search outlining-stopped

pub returns : goal.returns
returns c = search outlining-all
