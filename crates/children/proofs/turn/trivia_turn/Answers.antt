use Rattle.children.proofs.Turns.{trivia_started, trivia-last, trivia-breaks, trivia-inline}
use Rattle.children.proofs.turn.trivia_turn.Goals as goal

pub returns-then-started : goal.returns-then-started
returns-then-started c = search trivia_started

pub returns-then-is_single_line : goal.returns-then-is_single_line
returns-then-is_single_line c = search trivia-last

pub returns-then-feeds_of-ge1 : goal.returns-then-feeds_of-ge1
returns-then-feeds_of-ge1 c = search trivia-breaks

pub returns : goal.returns
returns c = search trivia-inline
