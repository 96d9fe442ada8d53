use mathlib.Core.Path.{sym, ◌∙◌}
use Rattle.plan.proofs.Written.{token-op, word-op, note-op, plain_op, texted, noted, sized_as, fits_as}
use Rattle.plan.proofs.write.count_op.Goals as goal

pub count_text-requires : goal.count_text-requires
count_text-requires c = fits_as _ _ _ (token-op _ _ c.if-k-eq-TOKEN.true ∙ texted (sym c.text_at.ensures)) c.requires.fits

pub returns-then-k-eq-TOKEN : goal.returns-then-k-eq-TOKEN
returns-then-k-eq-TOKEN c = sized_as c.args.p (token-op _ _ c.if-k-eq-TOKEN.true ∙ texted (sym c.text_at.ensures)) c.count_text.ensures

pub count_text-requires-then-k-eq-WORD : goal.count_text-requires-then-k-eq-WORD
count_text-requires-then-k-eq-WORD c = fits_as _ _ _ (word-op _ _ c.if-k-eq-WORD.true ∙ texted (sym c.word_in.ensures)) c.requires.fits

pub returns-then-k-eq-WORD : goal.returns-then-k-eq-WORD
returns-then-k-eq-WORD c = sized_as c.args.p (word-op _ _ c.if-k-eq-WORD.true ∙ texted (sym c.word_in.ensures)) c.count_text-then-k-eq-WORD.ensures

pub count_note-requires : goal.count_note-requires
count_note-requires c = fits_as _ _ _ (note-op _ _ c.if-k-ge-NOTE_ABOVE.true ∙ noted _ _ (sym c.place_of.ensures)) c.requires.fits

pub returns-then-k-ge-NOTE_ABOVE : goal.returns-then-k-ge-NOTE_ABOVE
returns-then-k-ge-NOTE_ABOVE c = sized_as c.args.p (note-op _ _ c.if-k-ge-NOTE_ABOVE.true ∙ noted _ _ (sym c.place_of.ensures)) c.count_note.ensures

pub count_plain-requires-clause-fits : goal.count_plain-requires-clause-fits
count_plain-requires-clause-fits c = fits_as _ _ _ (plain_op _ _ c.if-k-eq-TOKEN.false c.if-k-eq-WORD.false c.if-k-ge-NOTE_ABOVE.false) c.requires.fits

pub returns : goal.returns
returns c = sized_as c.args.p (plain_op _ _ c.if-k-eq-TOKEN.false c.if-k-eq-WORD.false c.if-k-ge-NOTE_ABOVE.false) c.count_plain.ensures
