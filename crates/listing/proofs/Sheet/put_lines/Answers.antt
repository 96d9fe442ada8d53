use Rattle.listing.proofs.Writing.{lines_more, lines-all, lines-room}
use Rattle.listing.proofs.Sheet.put_lines.Goals as goal

pub put_line-requires : goal.put_line-requires
put_line-requires c = record { known = c.requires.known _ c.loop-i-test.true; room = lines-room _ _ _ _ c.loop-i.invariant c.loop-i-test.true c.requires.room }

pub loop-i-preserved : goal.loop-i-preserved
loop-i-preserved c = lines_more _ _ _ _ c.loop-i.invariant c.loop-i-test.true c.put_line.ensures

pub returns : goal.returns
returns c = lines-all _ _ _ _ c.loop-i.invariant c.loop-i-test.false
