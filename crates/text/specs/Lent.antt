-- What a contract says of a lent slice.
use Rattle.std.specs.Prelude.{List, ℕ}
use Rattle.std.specs.Borrow.{Bor, MutBor}
use denote.Triple.Both.{Both}

-- a slice lent to a call to be read, at its entry and at its exit
abbrev pub Lent : Type 0
Lent = Both (Bor (List ℕ)) (Bor (List ℕ))

-- a slice lent to be written
abbrev pub LentMut : Type 0
LentMut = Both (MutBor (List ℕ)) (MutBor (List ℕ))
