use mathlib.Core.Path.{refl}
use borrow.Author.Rules.{rules}
use Rattle.formatter.proofs.Calls.{stated-list, reads-back, listed-reply}
use Rattle.formatter.proofs.list_items.Goals as goal

pub returns : goal.returns
returns c =
    let h = rw c.new-buffers.ensures at c.serve.ensures in
    let m = h.lent.records in
    let n = h.lent.texts in
    let o = h.lent.listing in
    let r = stated-list h.served (listed-reply _) (search rules) (search rules) refl (search rules) in
    record { value = r.0; records_after = r.1.0; texts_after = r.1.1.0; listing_after = r.1.1.1.0; answered = r.1.1.1.1; read_back = reads-back h.served (listed-reply _) (search rules) (search rules) refl (search rules) }
