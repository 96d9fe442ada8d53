-- Tokens that print nothing, whatever their place.
use mathlib.Core.Path.{◌≡◌, refl, sym, ◌∙◌}
use mathlib.Core.Bool.{Bool, true, false, cond}
use mathlib.Core.List.{List, [], ◌∷◌, ◌++◌}
use Prim.Native.Nat.{ℕ}
use native.Mathlib.Omega.{arith}
use lib.Dec.{eqb}
use lib.ListN.{length}
use borrow.Author.Tests.{ne_eqb}
use Rattle.text.specs.Basic.{is_nil}
use Rattle.items.specs.Item.{text, newline, tab}
use Rattle.comments.specs.Comments.{Location, above_item, item_inline, end_of_items, single_line, error_items, comment}

-- a kind by its number
pub keyed-nil : (j k : ℕ) (s : List ℕ) (loc : Location) {b : Bool} → k ≡ j → b ≡ is_nil (comment j s loc) → b ≡ is_nil (comment k s loc)
keyed-nil j k s loc e h = rw e h

pub single-some : (opening rest : List ℕ) (loc : Location) → false ≡ is_nil (single_line opening rest loc)
unfolding single_line
single-some opening rest above_item = refl
single-some opening rest item_inline = refl
single-some opening rest end_of_items = refl

-- an error's text with a piece begun
pieces-some : (done s : List ℕ) → is_nil done ≡ false → is_nil (error_items done s) ≡ false
unfolding error_items
pieces-some done [] h = rw h refl
pieces-some done (b ∷ s) h = go (eqb b 10) (eqb b 9) (pieces-some (done ++ b ∷ []) s (longer done))
  where
    longer : (xs : List ℕ) → is_nil (xs ++ b ∷ []) ≡ false
    longer [] = refl
    longer (x ∷ xs) = refl

    go : (x y : Bool) → is_nil (error_items (done ++ b ∷ []) s) ≡ false
        → is_nil (cond x (text done ∷ newline ∷ error_items [] s) (cond y (text done ∷ tab ∷ error_items [] s) (error_items (done ++ b ∷ []) s))) ≡ false
    go true y r = refl
    go false true r = refl
    go false false r = r

-- an error prints nothing where it has no bytes
pub pieces-nil : (s : List ℕ) → eqb (length s) 0 ≡ is_nil (error_items [] s)
unfolding error_items
pieces-nil [] = refl
pieces-nil (b ∷ s) = ne_eqb (length (b ∷ s)) 0 (λ h. omega arith) ∙ go (eqb b 10) (eqb b 9)
  where
    go : (x y : Bool) → false ≡ is_nil (cond x (text [] ∷ newline ∷ error_items [] s) (cond y (text [] ∷ tab ∷ error_items [] s) (error_items (b ∷ []) s)))
    go true y = refl
    go false true = refl
    go false false = sym (pieces-some (b ∷ []) s refl)
