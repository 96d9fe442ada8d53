-- A comment has no runs.
use Rattle.std.specs.Prelude.{◌≡◌, ℕ, List}
use mathlib.Core.Path.{refl}
use native.Mathlib.Omega.{arith}
use Rattle.text.specs.Basic.{sum, All, ∅, ◌▹◌}
use Rattle.items.specs.Item.{Item}
use Rattle.items.specs.Role.{role, is_run, runs_of}
use Rattle.comments.specs.Comments.{Location, comment}
use Rattle.comments.proofs.Every.{comment-all}

still-sum : {xs : List Item} → All (λ x. is_run (role x) ≡ 0) xs → runs_of xs ≡ 0
unfolding sum
still-sum ∅ = refl
still-sum (◌▹◌ {x} h r) = omega (arith, h, still-sum r)

-- a comment has no runs
pub comment-still : (k : ℕ) (s : List ℕ) (loc : Location) → runs_of (comment k s loc) ≡ 0
comment-still k s loc = still-sum (comment-all (λ x. is_run (role x) ≡ 0) refl refl (λ s. refl) k s loc)
