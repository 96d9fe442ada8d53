use Rattle.tree.proofs.Asciis.{ascii-valid, ascii-told}
use Rattle.tree.proofs.clean.is_valid.Goals as goal

pub returns-then-ascii : goal.returns-then-ascii
returns-then-ascii c = λ h. ascii-valid _ (c.requires c.if-ascii.true)

pub returns-then-is_ascii : goal.returns-then-is_ascii
returns-then-is_ascii c = λ h. ascii-valid _ (ascii-told _ c.is_ascii.ensures.cases c.if-is_ascii.true)
