use Rattle.comments.specs.Comments.{single_line}
use Rattle.items.proofs.Laws.{◌▸▸◌}
use Rattle.comments.proofs.Said.{texts}
use Rattle.comments.proofs.plain.print_single.Goals as goal

pub returns : goal.returns
unfolding single_line
returns c = c.print_lead.ensures ▸▸ c.print_text.ensures ▸▸ texts c.trim.ensures c.print_text-2.ensures ▸▸ c.print_end.ensures
