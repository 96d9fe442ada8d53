use Rattle.items.proofs.Laws.{◌▸▸◌}
use Rattle.comments.proofs.Said.{same, line-empty, line-full}
use Rattle.comments.proofs.block.print_row.Goals as goal

pub returns-then-l-eq0 : goal.returns-then-l-eq0
returns-then-l-eq0 c = same (line-empty _ _ c.if-l-eq0.true) (c.print_if.ensures ▸▸ c.print_signal.ensures)

pub returns : goal.returns
returns c = same (line-full _ _ c.if-l-eq0.false) (c.print_if.ensures ▸▸ c.print_if-2.ensures ▸▸ c.print_tabbed.ensures ▸▸ c.print_signal-2.ensures)
