use Rattle.comments.specs.Comments.{comment}
use Rattle.items.proofs.Laws.{unsaid}
use Rattle.comments.proofs.Said.{same, keyed, erroneous, single-rest}
use Rattle.comments.proofs.format_comment.Goals as goal

pub returns-in-64 : goal.returns-in-64
unfolding comment
returns-in-64 c = same (keyed 64 _ _ _ c.in-64.is) unsaid

pub returns-in-65 : goal.returns-in-65
unfolding comment
returns-in-65 c = same (keyed 65 _ _ _ c.in-65.is) c.print_multi_line.ensures

pub returns-in-66 : goal.returns-in-66
unfolding comment
returns-in-66 c = same (keyed 66 _ _ _ c.in-66.is) c.print_text.ensures

pub returns-in-67 : goal.returns-in-67
unfolding comment
returns-in-67 c = same (keyed 67 _ _ _ c.in-67.is) c.print_text-in-67.ensures

pub returns-in-68 : goal.returns-in-68
unfolding comment
returns-in-68 c = same (keyed 68 _ _ _ c.in-68.is) (single-rest _ _ c.behind.ensures c.print_single.ensures)

pub returns-in-69 : goal.returns-in-69
unfolding comment
returns-in-69 c = same (keyed 69 _ _ _ c.in-69.is) (single-rest _ _ c.behind-in-69.ensures c.print_single-in-69.ensures)

pub returns-in_default : goal.returns-in_default
returns-in_default c = same (search erroneous) c.print_error.ensures
