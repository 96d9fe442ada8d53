use mathlib.Core.Bool.{not}
use mathlib.Core.Path.{ap, sym, ◌∙◌}
use Rattle.comments.proofs.Said.{opt_yes, opt_no}
use Rattle.comments.proofs.plain.print_end.Goals as goal

pub returns-else-not-is_inline : goal.returns-else-not-is_inline
returns-else-not-is_inline c = opt_no _ _ (ap not (sym c.is_inline.ensures ∙ c.if-not-is_inline.false))

pub returns-then-not-is_inline : goal.returns-then-not-is_inline
returns-then-not-is_inline c = opt_yes _ _ (ap not (sym c.is_inline.ensures ∙ c.if-not-is_inline.true)) c.print_signal.ensures
