use Rattle.std.proofs.Common.{arith, ◌∙◌}
use lib.Seq.{take_all}
use Rattle.text.proofs.Walking.{line_feeds-is}
use Rattle.text.proofs.lines.line_feeds.Goals as goal

pub returns : goal.returns
returns c = rw (take_all c.loop-b.b-index c.args.s.now (omega arith)) at c.loop-b.invariant ∙ line_feeds-is _
