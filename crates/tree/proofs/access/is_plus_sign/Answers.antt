use borrow.Author.Tests.{ne_eqb}
use Rattle.tree.proofs.Parts.{sign_other, sign_one}
use Rattle.tree.proofs.access.is_plus_sign.Goals as goal

pub returns-then-s-eq1 : goal.returns-then-s-eq1
returns-then-s-eq1 c = sign_one _ c.if-s-eq1.true

pub returns-else-s-eq1 : goal.returns-else-s-eq1
returns-else-s-eq1 c = rw (ne_eqb _ 1 c.if-s-eq1.false) (sign_other _ c.if-s-eq1.false)
