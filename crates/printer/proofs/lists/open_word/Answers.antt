use mathlib.Core.Path.{ap, sym}
use native.Mathlib.Omega.{arith}
use Rattle.plan.specs.Words.{words}
use Rattle.printer.specs.Lists.{open_text}
use Rattle.printer.proofs.lists.open_word.Goals as goal

pub returns-in-Array : goal.returns-in-Array
unfolding words
returns-in-Array c = record { known = omega arith; text = ap open_text (sym c.in-Array.is) }

pub returns-in-Object : goal.returns-in-Object
unfolding words
returns-in-Object c = record { known = omega arith; text = ap open_text (sym c.in-Object.is) }
