use borrow.Author.Rules.{rules}
use Rattle.exports.proofs.Answers.{comment-answered}
use Rattle.exports.proofs.tungvesk_comment.Goals as goal

pub returns : goal.returns
returns c =
    let h = rw (c.new-out.ensures, c.no_size.ensures) at c.format_comment.ensures in
    let m = h.frame.records_lent in
    let n = h.frame.texts_lent in
    let r = comment-answered _ _ _ _ c.location_of-loc.ensures h c.size.ensures (search rules) (search rules) c.tell.ensures.counts_after c.tell.ensures.value in
    record { value = r.0; counts_after = r.1.0; records_after = r.1.1.0; texts_after = r.1.1.1 }
