use Rattle.items.proofs.Emits.{uncounted, plain-is, plain-texts, one-fits, one-put}
use Rattle.items.proofs.put_plain.Goals as goal

pub put_entry-requires : goal.put_entry-requires
put_entry-requires c =
    let h = c.requires in
    one-fits _ c.args.p (plain-is _ _ h.kind_from h.kind_to c.args.p c.plain_entry.ensures) (uncounted c.args.p h.unlisted c.plain_entry.result) h.fits

pub returns : goal.returns
returns c =
    let h = c.requires in
    one-put _ c.args.p (plain-is _ _ h.kind_from h.kind_to c.args.p c.plain_entry.ensures) (uncounted c.args.p h.unlisted c.plain_entry.result) c.put_entry.ensures.records_after (plain-texts _ _ h.kind_from h.kind_to _ _) c.put_entry.ensures.value
