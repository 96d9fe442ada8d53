use Rattle.std.proofs.Common.{◌≤◌, ◌-◌, length, take}
use Rattle.std.specs.Io.KnownBytes.{Consumes}
use Rattle.tungvesk.proofs.read_input.Given as goal

-- what was read lies in the buffer, at its front
abbrev pub invariant-loop-n : goal.invariant-loop-n
invariant-loop-n g l = record {
  in_bounds : l.n ≤ length l.initial.buffer;
  read : Consumes (g.R.Read.remaining l.initial.input) (g.R.Read.remaining l.input) (take l.n l.buffer);
}

abbrev pub decreases-loop-n : goal.decreases-loop-n
decreases-loop-n g l = length l.initial.buffer - l.n
