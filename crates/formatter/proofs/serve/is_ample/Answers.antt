use native.Mathlib.Omega.{arith}
use Rattle.formatter.proofs.Calls.{most-small, ample_by}
use Rattle.formatter.proofs.serve.is_ample.Goals as goal

pub overflow_mul-result : goal.overflow_mul-result
overflow_mul-result c = omega (arith, c.most_records-most.ensures, most-small _ c.requires)

pub overflow_mul-result-2 : goal.overflow_mul-result-2
overflow_mul-result-2 c = omega (arith, c.most_records-most.ensures, most-small _ c.requires)

pub returns : goal.returns
returns c = ample_by _ _ _ c.most_records-most.ensures
