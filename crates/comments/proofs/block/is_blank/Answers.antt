use Rattle.comments.proofs.Said.{multi-blank}
use Rattle.comments.proofs.block.is_blank.Goals as goal

pub returns : goal.returns
returns c = λ loc. multi-blank _ _ _ _ loc c.inside-body.ensures c.starts_with-doc.ensures c.after_star.ensures _ c.trim_end-left.ensures
