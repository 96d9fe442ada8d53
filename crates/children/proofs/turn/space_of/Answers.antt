use Rattle.children.proofs.Turns.{space_yes, space_no}
use Rattle.children.proofs.turn.space_of.Goals as goal

pub returns-then-kind_at-eq-WHITESPACE : goal.returns-then-kind_at-eq-WHITESPACE
returns-then-kind_at-eq-WHITESPACE c = search space_yes

pub returns : goal.returns
returns c = search space_no
