use mathlib.Core.Path.{◌≡◌}
use lib.ListN.{length}
use Rattle.text.specs.Text.{trim_start}
use Rattle.text.proofs.white.trim_start.Given as goal

abbrev pub invariant-loop-first : goal.invariant-loop-first
invariant-loop-first l = trim_start l.rest ≡ trim_start l.s

abbrev pub decreases-loop-first : goal.decreases-loop-first
decreases-loop-first l = length l.rest
