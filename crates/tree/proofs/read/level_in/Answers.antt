use mathlib.Core.Path.{◌∙◌}
use Rattle.tree.proofs.Elements.{level_in_lem}
use Rattle.tree.proofs.read.level_in.Goals as goal

pub returns : goal.returns
returns c = rw c.place_of.ensures at c.short_in.ensures ∙ level_in_lem _ _
