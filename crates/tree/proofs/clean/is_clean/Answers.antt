use mathlib.Core.Path.{sym, ◌∙◌}
use Prim.Native.Nat.{◌+◌, ◌-◌}
use native.Mathlib.Omega.{arith}
use borrow.Author.Tests.{ltb-false, eqb-true, not-false}
use Rattle.tree.proofs.Passing.{measured, or_false}
use Rattle.tree.proofs.Asciis.{ascii-behind, ascii-told}
use Rattle.tree.proofs.Cleaning.{cleaning_first, cleaning-more, cleaning-all}
use mathlib.Core.Path.{ap}
use mathlib.Core.Bool.{not}
use Rattle.tree.proofs.clean.is_clean.Goals as goal

pub loop-i-init : goal.loop-i-init
loop-i-init c = cleaning_first ((measured _ c.requires.length c.requires.limits)) c.starts_right.ensures (not-false _ (ap not c.if-not-starts_right.false)) c.count_in-n.ensures c.place_of-at.ensures

pub is_sound-requires : goal.is_sound-requires
is_sound-requires c = λ h. ascii-behind c.args.image.now (c.place_of-at.result + 4) c.loop-i.at (c.loop-i.at + c.element_in-e.result.size - c.loop-i.at) (omega (arith, c.loop-i.invariant.here, c.count_in-n.ensures, c.place_of-at.ensures)) (ascii-told _ c.is_ascii-ascii.ensures.cases h)

pub loop-i-preserved : goal.loop-i-preserved
loop-i-preserved c = cleaning-more c.loop-i.invariant (omega (arith, c.loop-i-test.true, c.count_in-n.ensures)) c.element_in-e.ensures ((ltb-false _ _ (or_false c.is_misplaced.result _ c.if-is_misplaced-end.false).1)) c.is_misplaced.ensures (or_false c.is_misplaced.result _ c.if-is_misplaced-end.false).0 (c.is_sound.ensures (not-false _ (ap not c.if-not-is_sound.false))) (sym c.nameless_at.ensures ∙ c.if-nameless_at.false) c.deepest_behind-deepest.ensures

pub returns : goal.returns
returns c = λ h. cleaning-all c.loop-i.invariant c.count_in-n.ensures c.loop-i-test.false (eqb-true _ _ h) c.requires.length c.requires.limits
