use Rattle.children.proofs.Turns.{turn-child, turn-trivia, turn-error, turn-other}
use Rattle.children.proofs.turn.turn_of.Goals as goal

pub returns-then-is : goal.returns-then-is
returns-then-is c = search turn-child

pub returns-then-is_trivia : goal.returns-then-is_trivia
returns-then-is_trivia c = search turn-trivia

pub returns-then-is_error : goal.returns-then-is_error
returns-then-is_error c = search turn-error

pub returns : goal.returns
returns c = search turn-other
