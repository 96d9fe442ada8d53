-- Laws of characters: joined they are the text, and where a text is cut in front of a lead byte its characters are cut too.
use mathlib.Core.Path.{◌≡◌, refl, ap, ◌∙◌}
use mathlib.Core.Bool.{Bool, true, false, cond}
use mathlib.Core.List.{List, [], ◌∷◌, ◌++◌, flatten}
use Prim.Native.Nat.{ℕ}
use Rattle.text.specs.Basic.{within, first_or, all}
use Rattle.text.specs.Text.{continues, lead, chars}
use Rattle.text.proofs.Lists.{and_true}

-- a byte that continues a character
abbrev pub is_tail : ℕ → Bool
is_tail = within 0x80 0xbf

flatten_lead : (b : ℕ) (gs : List (List ℕ)) → flatten (lead b gs) ≡ b ∷ flatten gs
unfolding lead flatten
flatten_lead b [] = refl
flatten_lead b (g ∷ gs) = go (continues g)
  where
    go : (t : Bool) → flatten (cond t ((b ∷ g) ∷ gs) ((b ∷ []) ∷ g ∷ gs)) ≡ b ∷ (g ++ flatten gs)
    go true = refl
    go false = refl

pub flatten_chars : (s : List ℕ) → flatten (chars s) ≡ s
unfolding chars flatten
flatten_chars [] = refl
flatten_chars (b ∷ s) = rw (flatten_lead b (chars s), flatten_chars s)

-- a byte and tails are one character
pub chars-one : (b : ℕ) (t : List ℕ) → all is_tail t ≡ true → chars (b ∷ t) ≡ (b ∷ t) ∷ []
unfolding chars lead all
chars-one b [] h = refl
chars-one b (c ∷ t) h =
    let (x, y) = and_true (is_tail c) (all is_tail t) h in
    ap (lead b) (chars-one c t y) ∙ rw x

lead-first : (b : ℕ) (gs : List (List ℕ)) → continues (first_or [] (lead b gs)) ≡ is_tail b
unfolding lead
lead-first b [] = refl
lead-first b (g ∷ gs) = go (continues g)
  where
    go : (t : Bool) → continues (first_or [] (cond t ((b ∷ g) ∷ gs) ((b ∷ []) ∷ g ∷ gs))) ≡ is_tail b
    go true = refl
    go false = refl

chars-first : (s : List ℕ) → continues (first_or [] (chars s)) ≡ continues s
unfolding chars
chars-first [] = refl
chars-first (b ∷ s) = lead-first b (chars s)

lead-append : (b : ℕ) (gs hs : List (List ℕ)) → continues (first_or [] hs) ≡ false → lead b (gs ++ hs) ≡ lead b gs ++ hs
unfolding lead
lead-append b [] [] h = refl
lead-append b [] (k ∷ hs) h = rw h
lead-append b (g ∷ gs) hs h = go (continues g)
  where
    go : (t : Bool) → cond t ((b ∷ g) ∷ (gs ++ hs)) ((b ∷ []) ∷ g ∷ (gs ++ hs)) ≡ cond t ((b ∷ g) ∷ gs) ((b ∷ []) ∷ g ∷ gs) ++ hs
    go true = refl
    go false = refl

-- the characters of two texts, of which the second begins with a character
pub chars-append : (s t : List ℕ) → continues t ≡ false → chars (s ++ t) ≡ chars s ++ chars t
unfolding chars
chars-append [] t h = refl
chars-append (b ∷ s) t h = ap (lead b) (chars-append s t h) ∙ lead-append b (chars s) (chars t) (chars-first t ∙ h)
