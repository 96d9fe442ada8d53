-- What the exported function on refusals answers.
use Rattle.std.specs.Prelude.{◌≡◌, List, [], ◌∷◌, ℕ}
use Rattle.tree.specs.Answer.{Answer, refused, passed}
use Rattle.exports.specs.declared.Verdict.{Verdict}

-- document 01's number of the refusal, 0 where there is none
unfoldable pub number : Answer → ℕ
number (refused r) = r.number
number (passed n b) = 0

-- its element, or N of an image that passed
unfoldable pub first_value : Answer → ℕ
first_value (refused r) = r.element
first_value (passed n b) = n

-- B of an image that passed
unfoldable pub second_value : Answer → ℕ
second_value (refused r) = 0
second_value (passed n b) = b

-- both, as they stand in the lent values
abbrev pub both_values : Answer → List ℕ
both_values a = first_value a ∷ second_value a ∷ []

-- A verdict has the number and the values of an answer.
pub record Tells (v : Verdict) (a : Answer) : Type 0 where
  pub answered : v.0 ≡ number a
  pub first : v.1 ≡ first_value a
  pub second : v.2 ≡ second_value a
