-- What the reader of UTF-8 keeps between two bytes, in the terms of RFC 3629's syntax.
use Rattle.std.specs.Prelude as prelude
use Rattle.std.specs.Prelude.{cond, List, [], ◌∷◌, ℕ, zero, suc, eqb}
use Rattle.std.proofs.Math.Option.{Option, none, some}
use Rattle.text.specs.Text.{Range, tail, from}
use Rattle.text.specs.declared.utf8.Tails.{Tails}

-- UTF8-3 and UTF8-4 of RFC 3629: the first tail behind e0 and f0 begins higher than others
unfoldable pub lowest_tail : ℕ → ℕ
lowest_tail b = cond (eqb b 0xe0) 0xa0 (cond (eqb b 0xf0) 0x90 0x80)

-- UTF8-3 and UTF8-4 of RFC 3629: the first tail behind ed and f4 ends lower than others
unfoldable pub highest_tail : ℕ → ℕ
highest_tail b = cond (eqb b 0xed) 0x9f (cond (eqb b 0xf4) 0x8f 0xbf)

-- n tails
unfoldable pub tails : ℕ → List Range
tails zero = []
tails (suc n) = tail ∷ tails n

-- n tails, the first of them from lo to hi
unfoldable pub tails_from : ℕ → ℕ → ℕ → List Range
tails_from zero lo hi = []
tails_from (suc n) lo hi = from lo hi ∷ tails n

-- what is owed
unfoldable pub owed_of : prelude.Option Tails → Option (List Range)
owed_of prelude.None = none
owed_of (prelude.Some t) = some (tails_from t.more t.low t.high)
