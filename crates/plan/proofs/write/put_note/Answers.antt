use borrow.Author.Rules.{rules}
use Rattle.plan.proofs.Written.{note-puts, note-some}
use Rattle.plan.proofs.write.put_note.Goals as goal

pub unwrap-requires : goal.unwrap-requires
unwrap-requires c = note-some _ _ _ c.kind_at-k.ensures c.text_at-s.ensures c.requires (rw c.new-out.ensures at c.format_comment.ensures) c.size.ensures

pub returns : goal.returns
returns c =
    let h = rw c.new-out.ensures at c.format_comment.ensures in
    let m = h.frame.records_lent in
    let n = h.frame.texts_lent in
    note-puts _ _ _ c.kind_at-k.ensures c.text_at-s.ensures c.requires h c.size.ensures c.unwrap.ensures (search rules) (search rules)
