use native.Mathlib.Omega.{arith}
use Rattle.text.proofs.Flags.{white_tested}
use Rattle.text.proofs.class.is_white_byte.Goals as goal

pub returns : goal.returns
returns c = rw c.is_ascii_whitespace.ensures.value (white_tested c.args.b (omega arith))
