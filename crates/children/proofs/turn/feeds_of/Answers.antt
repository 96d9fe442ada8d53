use Rattle.children.proofs.Turns.{feeds_known}
use Rattle.children.proofs.turn.feeds_of.Goals as goal

pub returns-then-kind_at-eq-WHITESPACE : goal.returns-then-kind_at-eq-WHITESPACE
returns-then-kind_at-eq-WHITESPACE c = search feeds_known
