use mathlib.Core.Path.{◌≡◌}
use lib.ListN.{take}
use Rattle.std.specs.List.{count_by}
use Rattle.items.specs.Lines.{is_escaped}
use Rattle.items.proofs.lines.escapes.Given as goal

abbrev pub invariant-loop-b : goal.invariant-loop-b
invariant-loop-b l = l.n ≡ count_by is_escaped (take l.b-index l.s)
