-- An answer held against the expected one.
use Rattle.std.specs.Prelude.{◌≡◌, ℕ, List, ◌≢◌}
use Rattle.numbers.specs.declared.mode.Mode.{Mode}
use Rattle.formatter.specs.Program.{judged, response, number_in}

-- What is printed of an image in a mode, by its definition, is as expected, and then its number is told; else 255 is, which no refusal has.
pub record Replies (m : Mode) (image want : List ℕ) (r : ℕ) : Type 0 where
  pub agrees : response m image ≡ want → r ≡ number_in (judged m image)
  pub differs : (response m image ≢ want) → r ≡ 255
