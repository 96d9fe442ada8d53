use Rattle.items.proofs.Laws.{unsaid, ◌▸▸◌}
use Rattle.comments.proofs.Said.{same, beside-one, beside-more}
use Rattle.comments.proofs.block.Block.print_beside.Goals as goal

pub returns-then-s-second : goal.returns-then-s-second
returns-then-s-second c = same (beside-one _ _ _ _ c.row.ensures c.args.self.parted c.if-s-second.true) (c.print_row.ensures ▸▸ unsaid)

pub returns : goal.returns
returns c =
    same (beside-more _ _ _ _ _ _ _ c.row.ensures c.args.self.parted c.if-s-second.false c.row-2.ensures c.next_row-third.ensures c.common_length-n.ensures)
    (c.print_row.ensures ▸▸ c.print_rows.ensures)
