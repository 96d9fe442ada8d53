use mathlib.Core.Path.{refl}
use Rattle.items.proofs.Emits.{plain-is, one-fits, one-sized}
use Rattle.items.proofs.count_plain.Goals as goal

pub count_entry-requires : goal.count_entry-requires
count_entry-requires c =
    let h = c.requires in
    one-fits _ _ (plain-is _ _ h.kind_from h.kind_to c.args.p c.plain_entry.ensures) refl h.fits

pub returns : goal.returns
returns c =
    let h = c.requires in
    one-sized _ _ (plain-is _ _ h.kind_from h.kind_to c.args.p c.plain_entry.ensures) refl c.count_entry.ensures
