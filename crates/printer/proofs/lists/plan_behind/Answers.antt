use Rattle.plan.proofs.Laws.{◌▸◌, by}
use Rattle.printer.proofs.Listing.{following_is}
use Rattle.printer.proofs.lists.plan_behind.Goals as goal

pub returns : goal.returns
returns c = by (following_is _ _ _ c.at_child-more.ensures) (c.on_line.ensures _ ▸ c.plan_inline.ensures ▸ c.behind_it.ensures _)
