-- What a function that writes bytes into a lent buffer promises.
use Rattle.std.specs.Prelude.{◌≡◌, List, ℕ, ◌+◌, ◌<◌, ◌^◌, length}
use Rattle.std.specs.Borrow.{MutBor}
use denote.Triple.Both.{Both}
use Rattle.items.specs.Machine.{store}
use Rattle.text.specs.Lent.{LentMut}
use Rattle.listing.specs.declared.Sheet.{Sheet}

-- A lent buffer, and the place of the next byte.
pub record Page : Type 0 where
  pub buffer : List ℕ
  pub place : ℕ

-- a buffer and a place
abbrev pub page : List ℕ → ℕ → Page
page b n = record { buffer = b; place = n }

-- Writing bs takes o to a: each byte is counted, and stored if there is room.
pub record Writes (bs : List ℕ) (o a : Page) : Type 0 where
  pub counted : a.place ≡ o.place + length bs
  pub stored : a.buffer ≡ store o.buffer o.place bs

-- The place behind bs, from place n on, is a number of 64 bits.
pub record Room (bs : List ℕ) (n : ℕ) : Type 0 where
  pub fits : n + length bs < 2 ^ 64

-- ---- room for what is written in turn

-- the contract of a function that is lent a buffer, writes bs from a place on and answers the next place
abbrev pub WritesIn : LentMut → ℕ → ℕ → List ℕ → Type 0
WritesIn out at next bs = Writes bs (page out.entry.now at) (page out.exit.now next)

-- ---- what the methods of a sheet promise; only contracts of private functions cite this

-- what a sheet holds
abbrev pub held : Sheet → Page
held s = page s.out.now s.at

-- Writing bs takes o to a, which is in the same buffer.
pub record Fills (bs : List ℕ) (o a : Sheet) : Type 0 where
  pub written : Writes bs (held o) (held a)
  pub lent : a.out.ghost_name ≡ o.out.ghost_name

-- a method that is lent a sheet writes bs
abbrev pub WritesOn : Both (MutBor Sheet) (MutBor Sheet) → List ℕ → Type 0
WritesOn sheet bs = Fills bs sheet.entry.now sheet.exit.now
