use Rattle.std.proofs.Common.{◌∙◌}
use Rattle.text.proofs.Trimming.{trim_both}
use Rattle.text.proofs.white.trim.Goals as goal

pub returns : goal.returns
returns c = rw c.trim_end.ensures at c.trim_start.ensures ∙ trim_both _
