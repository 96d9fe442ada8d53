use mathlib.Core.Path.{◌∙◌}
use Rattle.tree.specs.Class.{kinds}
use Rattle.children.proofs.Turns.{range_is}
use Rattle.children.proofs.turn.is_single_line.Goals as goal

pub returns : goal.returns
unfolding kinds
returns c = c.contains.ensures.value ∙ rw (c.new.ensures.start, c.new.ensures.end, c.new.ensures.exhausted) (range_is _ _ _)
