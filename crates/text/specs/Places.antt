-- Places in a text: where its first character ends and where its last one begins.
use Rattle.std.specs.Prelude.{◌≡◌, ℕ, ◌<◌, ◌≤◌, length, take, drop}
use mathlib.Core.List.{List, [], ◌∷◌, ◌++◌}
use Rattle.text.specs.Text.{chars}

-- The first character ends at j.
pub record FirstChar (s : List ℕ) (j : ℕ) : Type 0 where
  pub past : 0 < j
  pub upto : j ≤ length s
  pub first : chars s ≡ take j s ∷ chars (drop j s)

-- The last character begins at j.
pub record LastChar (s : List ℕ) (j : ℕ) : Type 0 where
  pub before : j < length s
  pub last : chars s ≡ chars (take j s) ++ (drop j s ∷ [])
