use borrow.Author.Tests.{eq-eqb, ne_eqb}
use Rattle.items.proofs.Laws.{◌▸▸◌}
use Rattle.comments.proofs.Said.{pick_first, pick_second}
use Rattle.comments.proofs.plain.print_piece.Goals as goal

pub returns-then-cut-eq-LINE_FEED : goal.returns-then-cut-eq-LINE_FEED
returns-then-cut-eq-LINE_FEED c = c.print_text.ensures ▸▸ pick_first _ _ _ (eq-eqb _ _ c.if-cut-eq-LINE_FEED.true) c.print_signal.ensures

pub returns-else-cut-eq-LINE_FEED : goal.returns-else-cut-eq-LINE_FEED
returns-else-cut-eq-LINE_FEED c = c.print_text.ensures ▸▸ pick_second _ _ _ (ne_eqb _ _ c.if-cut-eq-LINE_FEED.false) c.print_signal-else-cut-eq-LINE_FEED.ensures
