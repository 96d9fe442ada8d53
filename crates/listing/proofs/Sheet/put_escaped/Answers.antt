use Rattle.listing.proofs.Writing.{escaping_more, escaping-all, escaping-room}
use Rattle.listing.proofs.Sheet.put_escaped.Goals as goal

pub put_escaped_byte-requires : goal.put_escaped_byte-requires
put_escaped_byte-requires c = escaping-room _ _ c.loop-b.invariant c.loop-b-test.true c.requires

pub loop-b-preserved : goal.loop-b-preserved
loop-b-preserved c = escaping_more _ _ c.loop-b.invariant c.loop-b-test.true c.put_escaped_byte.ensures

pub returns : goal.returns
returns c = escaping-all _ _ c.loop-b.invariant c.loop-b-test.false
