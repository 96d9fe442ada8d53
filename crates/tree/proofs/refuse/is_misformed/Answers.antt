use mathlib.Core.Path.{refl}
use Rattle.tree.proofs.Comments.{misformed-hash, misformed-slash, misformed-multi, misformed-other}
use Rattle.tree.proofs.refuse.is_misformed.Goals as goal

pub returns-then-k-eq-SINGLE_LINE_HASH_COMMENT : goal.returns-then-k-eq-SINGLE_LINE_HASH_COMMENT
returns-then-k-eq-SINGLE_LINE_HASH_COMMENT c = misformed-hash _ _ _ refl refl _ c.if-k-eq-SINGLE_LINE_HASH_COMMENT.true c.starts_with.ensures

pub returns-then-k-eq-SINGLE_LINE_SLASH_COMMENT : goal.returns-then-k-eq-SINGLE_LINE_SLASH_COMMENT
returns-then-k-eq-SINGLE_LINE_SLASH_COMMENT c = misformed-slash _ _ _ refl refl _ c.if-k-eq-SINGLE_LINE_SLASH_COMMENT.true c.starts_with-then-k-eq-SINGLE_LINE_SLASH_COMMENT.ensures

pub returns-then-k-eq-MULTI_LINE_COMMENT : goal.returns-then-k-eq-MULTI_LINE_COMMENT
returns-then-k-eq-MULTI_LINE_COMMENT c = misformed-multi _ _ _ refl refl _ c.if-k-eq-MULTI_LINE_COMMENT.true c.misformed_multi_line.ensures

pub returns : goal.returns
returns c = misformed-other _ _ _ refl refl c.if-k-eq-SINGLE_LINE_HASH_COMMENT.false c.if-k-eq-SINGLE_LINE_SLASH_COMMENT.false c.if-k-eq-MULTI_LINE_COMMENT.false
