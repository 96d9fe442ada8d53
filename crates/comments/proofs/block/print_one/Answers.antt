use Rattle.comments.specs.Comments.{on_one_line}
use Rattle.items.proofs.Laws.{◌▸▸◌}
use Rattle.comments.proofs.Said.{texts}
use Rattle.comments.proofs.block.print_one.Goals as goal

pub returns : goal.returns
unfolding on_one_line
returns c = c.print_lead.ensures ▸▸ c.print_text.ensures ▸▸ texts c.trim.ensures c.print_text-2.ensures ▸▸ c.print_text-3.ensures ▸▸ c.print_end.ensures
