use mathlib.Core.Path.{refl, sym, ap}
use mathlib.Core.Bool.{false}
use borrow.Author.Rules.{rules}
use Rattle.formatter.specs.Reply.{reply_to}
use Rattle.formatter.proofs.Calls.{stated, unlisted-refused}
use Rattle.formatter.proofs.print_items.Goals as goal

pub returns : goal.returns
returns c =
    let h = rw c.new-buffers.ensures at c.serve.ensures in
    let m = h.lent.records in
    let n = h.lent.texts in
    let r = stated h.served (ap (reply_to false) (sym c.in_ok-done.was)) (search rules) (search rules) refl in
    record { value = r.0; records_after = r.1.0; texts_after = r.1.1.0; answered = r.1.1.1 }

pub returns-in_err-done : goal.returns-in_err-done
returns-in_err-done c =
    let h = rw c.new-buffers.ensures at c.serve.ensures in
    let m = h.lent.records in
    let n = h.lent.texts in
    let r = stated h.served (unlisted-refused _ _ _ c.in_err-done.was c.from_residual.ensures.1) (search rules) (search rules) refl in
    record { value = r.0; records_after = r.1.0; texts_after = r.1.1.0; answered = r.1.1.1 }
