-- A buffer after a copy.
use Rattle.std.specs.Prelude.{ℕ, ◌+◌, cond, List, ◌++◌, length, take, drop, nat_le}

-- the buffer b with s at a place, if there is room for all of s
unfoldable pub stored : List ℕ → ℕ → List ℕ → List ℕ
stored b at s = cond (nat_le (at + length s) (length b)) (take at b ++ (s ++ drop (at + length s) b)) b

-- where s then ends: where it begins, if there is no room
unfoldable pub stored_end : List ℕ → ℕ → List ℕ → ℕ
stored_end b at s = cond (nat_le (at + length s) (length b)) (at + length s) at
