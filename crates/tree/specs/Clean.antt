-- What the pass over all elements at once asks of a text and of an element.
use Rattle.std.specs.Prelude.{◌≡◌, false, List, ℕ, ◌<◌, length, get_or}
use Rattle.tree.specs.Tree.{Element}
use Rattle.tree.specs.Refusal.{unknown_kind, node_with_text, not_utf8, string_block, misformed}

-- All bytes are ASCII.
pub record Ascii (s : List ℕ) : Type 0 where
  pub below : (k : ℕ) → get_or s k 0 < 128

-- An element offends none of the tests 3 and 5 to 8.
pub record Sound (e : Element) : Type 0 where
  pub known : unknown_kind e ≡ false
  pub textless : node_with_text e ≡ false
  pub encoded : not_utf8 e ≡ false
  pub printable : string_block e ≡ false
  pub formed : misformed e ≡ false

-- an element of this kind with this text, of which these tests ask no more
abbrev pub part : ℕ → List ℕ → Element
part kind text = record { number = 0; kind = kind; level = 0; size = length text; text = text }
