-- The two tables of names, each by its case.
use mathlib.Core.Path.{◌≡◌}
use mathlib.Core.List.{List}
use Prim.Native.Nat.{ℕ, ◌+◌, ◌≤◌, ◌<◌, ◌^◌}
use native.Mathlib.Omega.{arith}
use lib.ListN.{length, get_or}
use Rattle.text.specs.Words.{word_start}
use Rattle.text.proofs.Table.{tabled, tabled-at}
use Rattle.items.specs.declared.names.Table.{Table}
use Rattle.items.specs.declared.names.Table.TheVariants.{Kinds, Others}
use Rattle.items.specs.Lines.{kind_names}
use Rattle.items.specs.Names.{other_names, names_of}
use Rattle.items.specs.Machine.{store}

-- how many there are at most
pub names-few : (t : Table) → length (names_of t) ≤ 18
unfolding names_of kind_names other_names
names-few Kinds = omega arith
names-few Others = omega arith

module _ {t : Table} (h : t ≡ Kinds) where
  pub kinds-in : (w : ℕ) → w ≤ length (names_of t) → w < 19
  kinds-in w k = omega (arith, names-few t)

  pub kinds-start : (w : ℕ) → w ≤ length (names_of t) → get_or (tabled 19 (word_start kind_names) 0) w 0 ≡ word_start (names_of t) w
  unfolding names_of
  kinds-start w k = rw h (tabled-at 0 19 (word_start kind_names) w (kinds-in w k))

module _ {t : Table} (h : t ≡ Others) where
  pub others-in : (w : ℕ) → w ≤ length (names_of t) → w < 6
  unfolding names_of other_names
  others-in w k = let l = rw h at k in omega (arith, l)

  pub others-start : (w : ℕ) → w ≤ length (names_of t) → get_or (tabled 6 (word_start other_names) 0) w 0 ≡ word_start (names_of t) w
  unfolding names_of
  others-start w k = rw h (tabled-at 0 6 (word_start other_names) w (others-in w k))

-- ---- storing the part of the joined names that is a name

module _ {us vs : List ℕ} (e : us ≡ vs) where
  pub part_room : (n : ℕ) → n + length us < 2 ^ 64 → n + length vs < 2 ^ 64
  part_room n h = rw e at h

  pub part-stored : (b b' : List ℕ) (n : ℕ) → b' ≡ store b n vs → b' ≡ store b n us
  part-stored b b' n h = rw e h
