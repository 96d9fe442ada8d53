-- What a record shows, by its kind.
use mathlib.Core.Path.{◌≡◌, sym, ◌∙◌}
use mathlib.Core.Bool.{Bool, true, false, ◌&&◌}
use mathlib.Core.List.{List}
use Prim.Native.Nat.{ℕ, ◌+◌, ◌-◌}
use native.Mathlib.Omega.{arith}
use lib.Dec.{eqb}
use lib.ListN.{take, drop}
use borrow.Author.Tests.{eq-eqb, ne_eqb}
use Rattle.text.specs.Basic.{ascii}
use Rattle.items.specs.Lines.{field, escaped}
use Rattle.items.specs.Names.{name_at, has_number}
use Rattle.items.specs.declared.names.Table.TheVariants.{Kinds, Others}
use Rattle.listing.specs.Shown.{listed_text, shown}

-- a text lies from its offset to its offset and length
pub text-part : (ts : List ℕ) (a b : ℕ) → escaped (take b (drop a ts)) ≡ escaped (take (a + b - a) (drop a ts))
text-part ts a b = let e : a + b - a ≡ b = omega arith in rw e

module _ (ts : List ℕ) (k a b : ℕ) where
  pub shown-text : k ≡ 1 → shown ts k a b ≡ listed_text ts a b
  unfolding shown
  shown-text h = rw (eq-eqb k 1 h)

  pub shown-lines : (k ≡ 1 → ⊥) → (eqb k 15 && eqb a 1) ≡ true → shown ts k a b ≡ field (name_at Others 0) b
  unfolding shown
  shown-lines h e = rw (ne_eqb k 1 h, e)

  pub shown-number : {r : Bool} → (k ≡ 1 → ⊥) → (eqb k 15 && eqb a 1) ≡ false → r ≡ has_number k → r ≡ true → shown ts k a b ≡ field (name_at Kinds k) a
  unfolding shown
  shown-number h e f g = rw (ne_eqb k 1 h, e, sym f ∙ g)

  pub shown-name : {r : Bool} → (k ≡ 1 → ⊥) → (eqb k 15 && eqb a 1) ≡ false → r ≡ has_number k → r ≡ false → shown ts k a b ≡ ascii (name_at Kinds k)
  unfolding shown
  shown-name h e f g = rw (ne_eqb k 1 h, e, sym f ∙ g)
