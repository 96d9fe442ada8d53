use Rattle.std.proofs.Common.{length}
use Rattle.vectors.proofs.replay.Given as goal

-- what is left gets shorter
abbrev pub decreases-loop-rest : goal.decreases-loop-rest
decreases-loop-rest l = length l.rest
