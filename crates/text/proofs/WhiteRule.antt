-- Rules of white space: what is tested at each of the 25 code points holds of every character that is white space.
use mathlib.Core.Path.{◌≡◌, refl}
use mathlib.Core.Bool.{Bool, true, false, ◌||◌, false≢true}
use mathlib.Core.List.{List, [], ◌∷◌}
use Prim.Native.Nat.{ℕ}
use lib.Dec.{eqb}
use borrow.Author.Tests.{eqb-true}
use Rattle.text.specs.Basic.{any, all, same_bytes}
use Rattle.text.specs.Text.{is_white, white_space, utf8}
use Rattle.text.proofs.Lists.{and_true}

same_bytes_lem : (s t : List ℕ) → same_bytes s t ≡ true → s ≡ t
unfolding same_bytes
same_bytes_lem [] [] h = refl
same_bytes_lem [] (b ∷ t) h = absurd (false≢true h)
same_bytes_lem (a ∷ s) [] h = absurd (false≢true h)
same_bytes_lem (a ∷ s) (b ∷ t) h =
    let (x, y) = and_true (eqb a b) (same_bytes s t) h in
    rw (eqb-true a b x, same_bytes_lem s t y)

pub either : (a b : Bool) {C : Type 0} → (a || b) ≡ true → (a ≡ true → C) → (b ≡ true → C) → C
either true b h f g = f refl
either false b h f g = g h

-- a rule that holds of all code points of a list holds of the characters among them
any_rule : (P : List ℕ → Bool) (cs : List ℕ) → all (λ c. P (utf8 c)) cs ≡ true → (g : List ℕ) → any (λ c. same_bytes (utf8 c) g) cs ≡ true → P g ≡ true
unfolding any all
any_rule P [] t g h = absurd (false≢true h)
any_rule P (c ∷ cs) t g h =
    let (x, y) = and_true (P (utf8 c)) (all (λ c. P (utf8 c)) cs) t in
    either (same_bytes (utf8 c) g) _ h (λ e. rw (same_bytes_lem (utf8 c) g e) at x) (any_rule P cs y g)

-- a rule that holds of the 25 code points of white space holds of every character that is one
pub white_rule : (P : List ℕ → Bool) → all (λ c. P (utf8 c)) white_space ≡ true → (g : List ℕ) → is_white g ≡ true → P g ≡ true
unfolding is_white
white_rule P t g h = any_rule P white_space t g h
