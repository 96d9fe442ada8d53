use Rattle.items.specs.Item.{text}
use Rattle.items.proofs.Emits.{unlisted, uncounted, text-short, one-fits, one-put}
use Rattle.items.proofs.put_text.Goals as goal

pub text_entry-requires : goal.text_entry-requires
text_entry-requires c = text-short _ _ c.requires.fits

pub put_entry-requires : goal.put_entry-requires
put_entry-requires c =
    let h = c.requires in
    one-fits _ c.args.p (unlisted c.args.p h.unlisted (text c.args.s.now) c.text_entry.ensures) (uncounted c.args.p h.unlisted c.text_entry.result) h.fits

pub returns : goal.returns
returns c =
    let h = c.requires in
    one-put _ c.args.p (unlisted c.args.p h.unlisted (text c.args.s.now) c.text_entry.ensures) (uncounted c.args.p h.unlisted c.text_entry.result) c.put_entry.ensures.records_after c.put_bytes.ensures c.put_entry.ensures.value
