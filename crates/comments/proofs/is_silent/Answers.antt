use mathlib.Core.Path.{refl, ◌∙◌, ap}
use Rattle.text.specs.Basic.{is_nil}
use Rattle.comments.specs.Comments.{comment}
use Rattle.comments.proofs.Said.{erroneous}
use Rattle.comments.proofs.Silent.{keyed-nil, single-some, pieces-nil}
use Rattle.comments.proofs.is_silent.Goals as goal

pub returns-in-64 : goal.returns-in-64
unfolding comment
returns-in-64 c = λ loc. keyed-nil 64 _ _ loc c.in-64.is refl

pub returns-in-65 : goal.returns-in-65
unfolding comment
returns-in-65 c = λ loc. keyed-nil 65 _ _ loc c.in-65.is (c.is_blank.ensures loc)

pub returns-in-66 : goal.returns-in-66
unfolding comment
returns-in-66 c = λ loc. keyed-nil 66 _ _ loc c.in-66.is refl

pub returns-in-67 : goal.returns-in-67
unfolding comment
returns-in-67 c = λ loc. keyed-nil 67 _ _ loc c.in-67.is refl

pub returns-in-68 : goal.returns-in-68
unfolding comment
returns-in-68 c = λ loc. keyed-nil 68 _ _ loc c.in-68.is (single-some _ _ loc)

pub returns-in-69 : goal.returns-in-69
unfolding comment
returns-in-69 c = λ loc. keyed-nil 69 _ _ loc c.in-69.is (single-some _ _ loc)

pub returns-in_default : goal.returns-in_default
returns-in_default c = λ loc. pieces-nil _ ∙ ap is_nil (search erroneous)
