use mathlib.Core.Path.{◌∙◌}
use native.Mathlib.Nat.{zero-add}
use Rattle.tree.proofs.Elements.{size_in_lem}
use Rattle.tree.proofs.read.size_of.Goals as goal

pub returns : goal.returns
returns c = rw (c.skip.ensures, c.new.ensures, zero-add, c.place_of.ensures) at c.read_u32.ensures ∙ size_in_lem _ _
