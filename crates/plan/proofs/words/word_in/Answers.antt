use Rattle.plan.proofs.Texts.{start_le, end_of, word_at_lem, no_word}
use Rattle.plan.proofs.words.word_in.Goals as goal

pub returns-then-w-ge-WORDS : goal.returns-then-w-ge-WORDS
returns-then-w-ge-WORDS c = no_word _ c.if-w-ge-WORDS.true

pub slice_bounds-result-count-2 : goal.slice_bounds-result-count-2
slice_bounds-result-count-2 c = start_le _ c.if-w-ge-WORDS.false c.start_of-start.ensures c.start_of-end.ensures

pub slice_bounds-result-start-2 : goal.slice_bounds-result-start-2
slice_bounds-result-start-2 c = start_le _ c.if-w-ge-WORDS.false c.start_of-start.ensures c.start_of-end.ensures

pub slice_bounds-result-end-2 : goal.slice_bounds-result-end-2
slice_bounds-result-end-2 c = end_of _ c.requires c.if-w-ge-WORDS.false c.start_of-start.ensures c.start_of-end.ensures

pub returns : goal.returns
returns c = word_at_lem _ c.requires c.if-w-ge-WORDS.false c.start_of-start.ensures c.start_of-end.ensures
