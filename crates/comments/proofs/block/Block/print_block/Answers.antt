use Rattle.comments.proofs.Said.{same, block_doc, block_one, block_more}
use Rattle.comments.proofs.block.Block.print_block.Goals.{else-not-self-via-then-not-self+else-s-self, else-not-self-via-else-not-self}
use Rattle.comments.proofs.block.Block.print_block.Goals as goal

pub returns-then-s-self : goal.returns-then-s-self
returns-then-s-self c = same (block_one _ _ _ _ _ _ c.if-not-self.true c.row.ensures c.args.self.parted c.if-s-self.true) c.print_one.ensures

pub returns-else-not-self : goal.returns-else-not-self
returns-else-not-self c = elim c.else-not-self.branch [
  | else-not-self-via-then-not-self+else-s-self w ↦ same (block_more _ _ _ _ _ w.if-not-self.true c.args.self.parted w.if-s-self.false) c.print_many.ensures
  | else-not-self-via-else-not-self w ↦ same (block_doc _ _ _ _ w.if-not-self.false) c.print_many.ensures
]
