use native.Mathlib.Omega.{arith}
use Rattle.listing.proofs.Head.{head-short}
use Rattle.listing.proofs.listing_length.Goals as goal

pub overflow_add-result : goal.overflow_add-result
overflow_add-result c = omega (arith, c.head_length.ensures, head-short c.args.c (omega arith) (omega arith) (omega arith) (omega arith))
