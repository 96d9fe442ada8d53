-- The siblings of a tree, one at a time.
use Rattle.std.specs.Prelude.{◌≡◌, List, ℕ, ◌<◌, ◌≤◌, Option, MatchOption}
use Rattle.numbers.specs.declared.Element.{Element}
use Rattle.tree.specs.declared.iter.Siblings.{Siblings}
use Rattle.tree.specs.Index.{end_at, Region}

-- What is left of the siblings of a tree that begin before b.
pub record Left (image index : List ℕ) (b : ℕ) (s : Siblings) : Type 0 where
  pub region : Region image index s.next b
  pub indexed : s.index.now ≡ index
  pub ended : s.end ≡ b

-- of the siblings s the first is given, if one is left, and t are those behind it
abbrev pub GivesSibling : Siblings → Option Element → Siblings → Type 0
GivesSibling s r t = (t.index.now ≡ s.index.now) × (t.end ≡ s.end)
    × MatchOption r ((s.end ≤ s.next) × (t.next ≡ s.next)) (λ j. (s.next < s.end) × (j.0 ≡ s.next) × (t.next ≡ end_at s.index.now s.next))
