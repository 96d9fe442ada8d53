use native.Mathlib.Omega.{arith}
use Rattle.text.specs.Basic.{any, same_bytes}
use Rattle.text.specs.Text.{class_of, lead_length, follows, is_pad, is_white, white_space, utf8}
use Rattle.text.proofs.Table.{tabled-at}
use Rattle.text.proofs.class.class_of.Goals as goal

-- The table's rule at every byte, by one computed test over the whole table.

pub returns : goal.returns
unfolding class_of lead_length follows is_pad is_white white_space utf8 any same_bytes
returns c = tabled-at 0 256 class_of c.args.b (omega arith)
