use native.Mathlib.Omega.{arith}
use Rattle.text.proofs.Flags.{class-lead}
use Rattle.text.proofs.class.lead_length.Goals as goal

pub returns : goal.returns
returns c = class-lead _ c.args.b (omega arith) c.class_of.ensures
