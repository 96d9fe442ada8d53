use mathlib.Core.Path.{refl}
use Rattle.items.proofs.Emits.{text-short, one-fits, one-sized}
use Rattle.items.proofs.count_text.Goals as goal

pub text_entry-requires : goal.text_entry-requires
text_entry-requires c = text-short _ _ c.requires

pub count_entry-requires : goal.count_entry-requires
count_entry-requires c = one-fits _ _ c.text_entry.ensures refl c.requires

pub returns : goal.returns
returns c = one-sized _ _ c.text_entry.ensures refl c.count_entry.ensures
