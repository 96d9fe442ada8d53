use Prim.Native.Nat.{◌-◌}
use Rattle.formatter.proofs.serve.+attempt_sized.Given as goal

-- the size grows up to that of the largest arrays: what is left up to it
abbrev pub decreases-attempt_sized : goal.decreases-attempt_sized
decreases-attempt_sized l = 226305 - l.size
