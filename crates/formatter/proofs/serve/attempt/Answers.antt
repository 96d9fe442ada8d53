use native.Mathlib.Omega.{arith}
use Rattle.formatter.proofs.serve.attempt.Goals as goal

pub whole_as_slice-serve_in : goal.whole_as_slice-serve_in
whole_as_slice-serve_in g c = omega (arith, c.requires.small)

pub whole_as_slice-serve_in-2 : goal.whole_as_slice-serve_in-2
whole_as_slice-serve_in-2 g c = omega (arith, c.requires.small)
