use Rattle.tree.specs.Tree.{le16}
use Rattle.tree.proofs.Numbers.{number-as}
use Rattle.tree.proofs.Elements.{le16-drop}
use Rattle.tree.proofs.bytes.short_at.Goals as goal

pub returns : goal.returns
returns c = number-as le16 le16-drop _ _ c.behind.ensures c.u16_at.ensures
