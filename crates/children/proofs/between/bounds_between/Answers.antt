use Rattle.children.proofs.Arounds.{bounded}
use Rattle.tree.proofs.Options.{lacking}
use Rattle.children.proofs.between.bounds_between.Goals as goal

pub returns : goal.returns
returns c = bounded c.requires c.from_of-from.ensures c.to_of-to.ensures (lacking _ c.is_none-unbound.ensures) (lacking _ c.is_none-endless.ensures)
