use mathlib.Core.Path.{◌≡◌}
use lib.ListN.{length}
use Rattle.text.specs.Text.{trim_end}
use Rattle.text.proofs.white.trim_end.Given as goal

abbrev pub invariant-loop-b : goal.invariant-loop-b
invariant-loop-b l = trim_end l.rest ≡ trim_end l.s

abbrev pub decreases-loop-b : goal.decreases-loop-b
decreases-loop-b l = length l.rest
