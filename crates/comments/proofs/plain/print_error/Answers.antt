use Rattle.std.proofs.Common.{◌≡◌, sym, ◌∙◌, rules, tests}
use borrow.Author.Tests.{eqb-true, eqb-false}
use Rattle.std.specs.List.{position}
use Rattle.std.proofs.lemmas.Iterator.{YieldsList-from_slice}
use Rattle.std.proofs.lemmas.Iterator.Search.{position_from_yields_List}
use Rattle.comments.specs.Rows.{is_cut}
use Rattle.comments.proofs.Said.{pieces-more, pieces-last, pieces-all}
use Rattle.comments.proofs.plain.print_error.Goals as goal

pub loop-end-preserved : goal.loop-end-preserved
loop-end-preserved c =
    let found : c.position.result ≡ position is_cut c.loop-end.rest.now = position_from_yields_List is_cut _ _ c.position.result c.position.ensures.ran (YieldsList-from_slice _ c.iter.ensures.rest) (λ x b q k. search (rules, tests)) in
    pieces-more _ c.loop-end.invariant _ (sym c.in-Some.is ∙ found) c.print_piece.ensures

pub returns-else-not-is_empty : goal.returns-else-not-is_empty
returns-else-not-is_empty c = pieces-all _ c.loop-end.invariant (eqb-true _ _ (sym c.is_empty.ensures ∙ c.if-not-is_empty.false))

pub returns-then-not-is_empty : goal.returns-then-not-is_empty
returns-then-not-is_empty c =
    let found : c.position.result ≡ position is_cut c.loop-end.rest.now = position_from_yields_List is_cut _ _ c.position.result c.position.ensures.ran (YieldsList-from_slice _ c.iter.ensures.rest) (λ x b q k. search (rules, tests)) in
    pieces-last _ c.loop-end.invariant (sym c.in_default.is ∙ found) (eqb-false _ _ (sym c.is_empty.ensures ∙ c.if-not-is_empty.true)) c.print_text.ensures
