use mathlib.Core.Path.{sym, ◌∙◌}
use Rattle.plan.proofs.Written.{token-op, word-op, note-op, plain_op, texted, noted, puts_as, fits_as}
use Rattle.plan.proofs.write.write_op.Goals as goal

pub put_text-requires-clause-fits : goal.put_text-requires-clause-fits
put_text-requires-clause-fits c = fits_as _ _ _ (token-op _ _ c.if-k-eq-TOKEN.true ∙ texted (sym c.text_at.ensures)) c.requires.fits

pub returns-then-k-eq-TOKEN : goal.returns-then-k-eq-TOKEN
returns-then-k-eq-TOKEN c = puts_as (token-op _ _ c.if-k-eq-TOKEN.true ∙ texted (sym c.text_at.ensures)) c.put_text.ensures

pub put_text-requires-then-k-eq-WORD-clause-fits : goal.put_text-requires-then-k-eq-WORD-clause-fits
put_text-requires-then-k-eq-WORD-clause-fits c = fits_as _ _ _ (word-op _ _ c.if-k-eq-WORD.true ∙ texted (sym c.word_in.ensures)) c.requires.fits

pub returns-then-k-eq-WORD : goal.returns-then-k-eq-WORD
returns-then-k-eq-WORD c = puts_as (word-op _ _ c.if-k-eq-WORD.true ∙ texted (sym c.word_in.ensures)) c.put_text-then-k-eq-WORD.ensures

pub put_note-requires : goal.put_note-requires
put_note-requires c = fits_as _ _ _ (note-op _ _ c.if-k-ge-NOTE_ABOVE.true ∙ noted _ _ (sym c.place_of.ensures)) c.requires.fits

pub returns-then-k-ge-NOTE_ABOVE : goal.returns-then-k-ge-NOTE_ABOVE
returns-then-k-ge-NOTE_ABOVE c = puts_as (note-op _ _ c.if-k-ge-NOTE_ABOVE.true ∙ noted _ _ (sym c.place_of.ensures)) c.put_note.ensures

pub put_plain-requires-clause-fits : goal.put_plain-requires-clause-fits
put_plain-requires-clause-fits c = fits_as _ _ _ (plain_op _ _ c.if-k-eq-TOKEN.false c.if-k-eq-WORD.false c.if-k-ge-NOTE_ABOVE.false) c.requires.fits

pub returns : goal.returns
returns c = puts_as (plain_op _ _ c.if-k-eq-TOKEN.false c.if-k-eq-WORD.false c.if-k-ge-NOTE_ABOVE.false) c.put_plain.ensures
