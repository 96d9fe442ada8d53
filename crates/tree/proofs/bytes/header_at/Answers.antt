use Rattle.tree.proofs.Numbers.{header_as}
use Rattle.tree.proofs.bytes.header_at.Goals as goal

pub returns : goal.returns
returns c = header_as _ _ c.behind-t.ensures c.u16_at.ensures c.u16_at-2.ensures c.u32_at.ensures
