use Rattle.children.proofs.Turns.{other-out, other-over, other-skip, other-foreign}
use Rattle.children.proofs.turn.other_turn.Goals as goal

pub returns-then-had : goal.returns-then-had
returns-then-had c = search other-out

pub returns-then-loose : goal.returns-then-loose
returns-then-loose c = search other-over

pub returns-then-is_separator : goal.returns-then-is_separator
returns-then-is_separator c = search other-skip

pub returns : goal.returns
returns c = search other-foreign
