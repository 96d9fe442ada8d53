use Rattle.comments.proofs.Said.{pick_first, pick_second}
use Rattle.comments.proofs.block.print_tab.Goals as goal

pub returns-then-doc : goal.returns-then-doc
returns-then-doc c = pick_first _ _ _ c.if-doc.true c.print_text.ensures

pub returns-else-doc : goal.returns-else-doc
returns-else-doc c = pick_second _ _ _ c.if-doc.false c.print_signal.ensures
