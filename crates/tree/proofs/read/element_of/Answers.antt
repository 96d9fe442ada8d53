use mathlib.Core.Path.{◌∙◌}
use native.Mathlib.Nat.{zero-add}
use Rattle.tree.proofs.Numbers.{header_in}
use Rattle.tree.proofs.read.element_of.Goals as goal

pub returns : goal.returns
returns c = rw (c.skip.ensures, c.new.ensures, zero-add, c.place_of.ensures) at c.read_element.ensures ∙ header_in _ _
