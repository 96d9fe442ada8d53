-- What was found, over std's options.
use mathlib.Core.Path.{◌≡◌, refl, sym}
use mathlib.Core.Bool.{Bool, true, false, not, false≢true}
use Rattle.std.specs.Option.{option_or}
use Rattle.std.specs.Prelude.{Option, Some, None, is_some}
use Rattle.text.specs.Basic.{present, or_else}
use Rattle.numbers.specs.declared.Element.{Element}
use Rattle.tree.specs.Answer.{found}

-- what `is_none` ensures
pub lacking : (f : Option Element) {b : Bool} → is_some f ≡ not b → b ≡ not (present (found f))
lacking (Some x) {b = true} h = absurd (false≢true (sym h))
lacking (Some x) {b = false} h = refl
lacking None {b = true} h = refl
lacking None {b = false} h = absurd (false≢true h)

-- what `is_some` ensures
pub standing : (f : Option Element) {b : Bool} → b ≡ is_some f → b ≡ present (found f)
standing (Some x) e = e
standing None e = e

-- what `or` ensures
pub either : (f g : Option Element) {r : Option Element} → r ≡ option_or f g → found r ≡ or_else (found f) (found g)
either (Some x) g e = rw e
either None g e = rw e
