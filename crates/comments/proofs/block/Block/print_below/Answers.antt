use Rattle.comments.proofs.Said.{same, below}
use Rattle.comments.proofs.block.Block.print_below.Goals as goal

pub returns : goal.returns
returns c = same (below _ _ _ _ _ c.row.ensures c.args.self.parted c.common_length-n.ensures) c.print_rows.ensures
