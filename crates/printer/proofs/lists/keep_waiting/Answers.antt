use Rattle.plan.proofs.Laws.{kept, unkept}
use Rattle.printer.proofs.lists.keep_waiting.Goals as goal

pub returns-then-is_keeping : goal.returns-then-is_keeping
returns-then-is_keeping c = kept _ c.is_keeping.ensures c.if-is_keeping.true c.plan_waiting.ensures

pub returns-else-is_keeping : goal.returns-else-is_keeping
returns-else-is_keeping c = unkept _ c.is_keeping.ensures c.if-is_keeping.false
