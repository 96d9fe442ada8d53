-- The tests in their order: what the tests that are left say is what all say.
use mathlib.Core.Path.{◌≡◌, refl}
use mathlib.Core.Option.{Option, none, some}
use mathlib.Core.List.{List, [], ◌∷◌}
use Rattle.tree.specs.Refusal.{Refusal, first_refusal}

-- a test that refuses nothing leaves the rest
pub left-rest : (t : Option Refusal) (ts : List (Option Refusal)) → t ≡ none → first_refusal (t ∷ ts) ≡ first_refusal ts
unfolding first_refusal
left-rest t ts h = rw h

-- a test that refuses is the answer
pub left-met : (t : Option Refusal) (ts : List (Option Refusal)) (r : Refusal) → t ≡ some r → first_refusal (t ∷ ts) ≡ some r
unfolding first_refusal
left-met t ts r h = rw h

-- no test is left
pub left-none : first_refusal [] ≡ none
unfolding first_refusal
left-none = refl

pub ruleset left = (left-rest, left-met, left-none)
