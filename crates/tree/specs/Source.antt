-- A tree as what is read of it: its image and its index.
use Rattle.std.specs.Prelude.{List, ℕ}
use Rattle.std.specs.Borrow.{Bor}
use denote.Triple.Both.{Both}

-- The tree with this image and this index.
pub record Source : Type 0 where
  pub image : List ℕ
  pub index : List ℕ

abbrev pub source_at : List ℕ → List ℕ → Source
source_at image index = record { image = image; index = index }

-- a tree that is lent to a call
abbrev pub LentTree : Type 0
LentTree = Both (Bor Source) (Bor Source)
