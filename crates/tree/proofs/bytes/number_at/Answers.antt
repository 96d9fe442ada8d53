use Rattle.tree.specs.Tree.{le32}
use Rattle.tree.proofs.Numbers.{number-as}
use Rattle.tree.proofs.Elements.{le32-drop}
use Rattle.tree.proofs.bytes.number_at.Goals as goal

pub returns : goal.returns
returns c = number-as le32 le32-drop _ _ c.behind.ensures c.u32_at.ensures
