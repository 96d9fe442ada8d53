use Rattle.formatter.proofs.Calls.{short-records, short-texts, short-listing, all_room}
use Rattle.formatter.proofs.serve.fit.Goals as goal

pub returns-then-words-c : goal.returns-then-words-c
returns-then-words-c c = short-records c.args.c _ _ _ _ _ c.if-words-c.true

pub returns-then-room-c : goal.returns-then-room-c
returns-then-room-c c = short-texts c.args.c _ _ _ _ _ c.if-words-c.false c.if-room-c.true

pub returns-then-listed-size : goal.returns-then-listed-size
returns-then-listed-size c = short-listing c.args.c _ _ _ _ _ c.if-words-c.false c.if-room-c.false c.if-listed-size.true

pub returns : goal.returns
returns c = all_room c.args.c _ _ _ _ _ c.if-words-c.false c.if-room-c.false c.if-listed-size.false
