use native.Mathlib.Omega.{arith}
use Rattle.text.proofs.Flags.{pad_tested}
use Rattle.text.proofs.class.is_padding.Goals as goal

pub returns : goal.returns
returns c = rw c.is_ascii_whitespace.ensures.value (pad_tested c.args.b (omega arith))
