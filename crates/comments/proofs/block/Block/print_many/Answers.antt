use Rattle.comments.specs.Comments.{many_lines}
use Rattle.items.proofs.Laws.{◌▸▸◌}
use Rattle.comments.proofs.block.Block.print_many.Goals as goal

pub returns : goal.returns
unfolding many_lines
returns c = c.print_text.ensures ▸▸ c.print_if.ensures ▸▸ c.print_signal.ensures ▸▸ c.print_between.ensures ▸▸ c.print_if-2.ensures ▸▸ c.print_text-2.ensures ▸▸ c.print_signal-2.ensures
