use Rattle.std.proofs.Common.{◌∙◌}
use Rattle.text.proofs.Walking.{starts-is}
use Rattle.text.proofs.prefix.starts_with.Goals as goal

pub returns : goal.returns
returns c = c.starts_with.ensures.value ∙ starts-is _ _
