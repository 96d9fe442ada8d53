-- Signals have neither number nor text.
use mathlib.Core.Path.{◌≡◌, refl}
use mathlib.Core.List.{[]}
use Rattle.items.specs.Item.{Item, signal}
use Rattle.items.specs.Role.{stays, role}
use Rattle.items.specs.Records.{bytes_of}
use Rattle.items.specs.declared.Signal.{Signal}
use Rattle.plan.specs.Load.{number_in}

-- An item that stays when bodies are put back, and has neither number nor text.
pub record Sign (x : Item) : Type 0 where
  pub stay : role x ≡ stays
  pub unnamed : number_in x ≡ 0
  pub untold : bytes_of x ≡ []

pub signal_sign : (x : Signal) → Sign (signal x)
signal_sign x = record { stay = refl; unnamed = refl; untold = refl }
