use Rattle.children.proofs.Arounds.{kept_is}
use Rattle.children.proofs.around.is_kept.Goals as goal

pub returns : goal.returns
returns c = kept_is _ c.note_kinds.ensures c.is-note.ensures c.is_separator-separator.ensures
