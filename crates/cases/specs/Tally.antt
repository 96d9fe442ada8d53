-- A count.
use Rattle.std.specs.Prelude.{ℕ, ◌+◌, ◌%◌, ◌^◌, Bool, cond}

-- one more, if the test holds; a count wraps at 2 ^ 64
abbrev pub more_if : ℕ → Bool → ℕ
more_if n b = cond b ((n + 1) % 2 ^ 64) n
