use Rattle.std.proofs.Common.{arith}
use Rattle.tungvesk.proofs.Reading.{read_more}
use Rattle.tungvesk.proofs.read_input.Goals as goal

pub loop-n-preserved : goal.loop-n-preserved
loop-n-preserved g c = record {
  in_bounds = omega (arith, c.in_ok-more.ensures.in_bounds);
  read = read_more (g.R.Read.remaining c.args.input.now) (g.R.Read.remaining c.loop-n.input) (g.R.Read.remaining c.read_more.new.input) _ _ _ c.in_ok-more.more c.loop-n.invariant.read c.in_ok-more.ensures.buffer_unchanged c.in_ok-more.ensures.bytes;
}
