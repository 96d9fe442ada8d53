-- Test 8, by the kind of the comment.
use mathlib.Core.Path.{◌≡◌, refl}
use mathlib.Core.Bool.{Bool, true, false, not, ◌||◌}
use mathlib.Core.List.{List}
use Prim.Native.Nat.{ℕ}
use lib.Dec.{ltb}
use lib.ListN.{length}
use borrow.Author.Tests.{ne_eqb}
use Rattle.text.specs.Basic.{ascii, starts_with}
use Rattle.text.specs.Text.{ends_with}
use Rattle.tree.specs.Tree.{Element}
use Rattle.tree.specs.Refusal.{misformed}

pub or_none_lem : (b : Bool) → b ≡ (b || false)
or_none_lem true = refl
or_none_lem false = refl

module _ (e : Element) (k : ℕ) (t : List ℕ) (p : k ≡ e.kind) (q : t ≡ e.text) where
  pub misformed-hash : (b : Bool) → k ≡ 68 → b ≡ starts_with (ascii "#") t → not b ≡ misformed e
  unfolding misformed
  misformed-hash b h r = rw (← p, ← q, h, ← r) (or_none_lem (not b))

  pub misformed-slash : (b : Bool) → k ≡ 69 → b ≡ starts_with (ascii "//") t → not b ≡ misformed e
  unfolding misformed
  misformed-slash b h r = rw (← p, ← q, h, ← r) (or_none_lem (not b))

  pub misformed-multi : (b : Bool) → k ≡ 65 → b ≡ (ltb (length t) 4 || (not (starts_with (ascii "/*") t) || not (ends_with (ascii "*/") t))) → b ≡ misformed e
  unfolding misformed
  misformed-multi b h r = rw (← p, ← q, h) r

  pub misformed-other : (k ≡ 68 → ⊥) → (k ≡ 69 → ⊥) → (k ≡ 65 → ⊥) → false ≡ misformed e
  unfolding misformed
  misformed-other a b c = rw (← p, ne_eqb k 68 a, ne_eqb k 69 b, ne_eqb k 65 c)
