-- Laws of the white space at a text's end and of its blank lines. They hold of every byte string.
use mathlib.Core.Path.{◌≡◌, refl, ap, ◌∙◌, sym}
use mathlib.Core.Bool.{Bool, true, false, cond, ◌&&◌, not}
use mathlib.Core.Logic.{◌⊎◌, inl, inr, ⊎_elim}
use mathlib.Core.List.{List, [], ◌∷◌, map, flatten, append-nil, nil≢cons}
use Prim.Native.Nat.{ℕ}
use native.Mathlib.Omega.{arith}
use lib.Dec.{leb, eqb}
use lib.ListN.{drop}
use borrow.Author.Tests.{leb-true, eqb-true, ne_eqb}
use Rattle.text.specs.Basic.{is_nil, first_or, any, all, drop_while, drop_end, same_bytes}
use Rattle.text.specs.Text.{continues, lead, chars, utf8, white_space, is_white, trim_end, in_first, lines}
use Rattle.text.proofs.WhiteRule.{white_rule}
use Rattle.text.proofs.Chars.{is_tail, flatten_chars, chars-one}
use Rattle.text.proofs.Lists.{and_true}

-- LISTS

-- the first member goes where it passes and all behind it goes
drop_end-cons : {A : Type 0} (f : A → Bool) (x : A) (xs : List A) → ((drop_end f (x ∷ xs) ≡ []) × (f x ≡ true) × (drop_end f xs ≡ [])) ⊎ (drop_end f (x ∷ xs) ≡ x ∷ drop_end f xs)
unfolding drop_end
drop_end-cons {A} f x xs = go (f x) (drop_end f xs)
  where
    go : (t : Bool) (ys : List A) → ((cond (t && is_nil ys) [] (x ∷ ys) ≡ []) × (t ≡ true) × (ys ≡ [])) ⊎ (cond (t && is_nil ys) [] (x ∷ ys) ≡ x ∷ ys)
    go true [] = inl (refl, refl, refl)
    go true (y ∷ ys) = inr refl
    go false ys = inr refl

not_nil : {A : Type 0} (xs : List A) → (xs ≡ [] → ⊥) → is_nil xs ≡ false
not_nil [] h = absurd (h refl)
not_nil (x ∷ xs) h = refl

-- it does not matter which end is dropped first
pub drops_commute : {A : Type 0} (f : A → Bool) (xs : List A) → drop_end f (drop_while f xs) ≡ drop_while f (drop_end f xs)
unfolding drop_end drop_while
drops_commute f [] = refl
drops_commute {A} f (x ∷ xs) = go (f x) refl (drop_end f xs) refl (drops_commute f xs)
  where
    go : (t : Bool) → f x ≡ t → (ys : List A) → drop_end f xs ≡ ys → drop_end f (drop_while f xs) ≡ drop_while f ys → drop_end f (cond t (drop_while f xs) (x ∷ xs)) ≡ drop_while f (cond (t && is_nil ys) [] (x ∷ ys))
    go true e [] d h = h
    go true e (y ∷ ys) d h = rw e h
    go false e ys d h = rw (e, d)

-- what is left ends in no member that passes
pub drop_end-twice : {A : Type 0} (f : A → Bool) (xs : List A) → drop_end f (drop_end f xs) ≡ drop_end f xs
unfolding drop_end
drop_end-twice f [] = refl
drop_end-twice {A} f (x ∷ xs) = go (f x) refl (drop_end f xs) (drop_end-twice f xs)
  where
    go : (t : Bool) → f x ≡ t → (ys : List A) → drop_end f ys ≡ ys → drop_end f (cond (t && is_nil ys) [] (x ∷ ys)) ≡ cond (t && is_nil ys) [] (x ∷ ys)
    go true e [] h = refl
    go true e (y ∷ ys) h = rw (e, h)
    go false e ys h = rw (e, h)

-- WHITE SPACE

-- a character of white space begins with a lead byte
tail_not_white : (g : List ℕ) → continues g ≡ true → is_white g ≡ false
unfolding all utf8 white_space
tail_not_white g c = go (is_white g) refl
  where
    go : (t : Bool) → is_white g ≡ t → t ≡ false
    go true w = sym (rw c at (white_rule (λ g. not (continues g)) refl g w))
    go false w = refl

-- and all its other bytes are tails
white_tails : (b : ℕ) (t : List ℕ) → is_white (b ∷ t) ≡ true → all is_tail t ≡ true
unfolding all utf8 white_space
white_tails b t h = white_rule (λ g. all is_tail (drop 1 g)) refl (b ∷ t) h

-- What stays of hs, the characters gs with a byte in front: nothing, and then the byte and what stays of gs are one
-- character of white space; or the byte in front of what stays of gs.
abbrev Fronted : ℕ → List (List ℕ) → List (List ℕ) → Type 0
Fronted b gs hs = ((drop_end is_white hs ≡ []) × (is_white (b ∷ flatten (drop_end is_white gs)) ≡ true)) ⊎ (drop_end is_white hs ≡ lead b (drop_end is_white gs))

lead-kept : (b : ℕ) (gs : List (List ℕ)) → Fronted b gs (lead b gs)
unfolding lead drop_end flatten
lead-kept b [] = ⊎_elim (λ w. inl (w.0, w.1)) inr (drop_end-cons is_white (b ∷ []) [])
lead-kept b (g ∷ gs) = go (continues g) refl
  where
    go : (t : Bool) → continues g ≡ t → Fronted b (g ∷ gs) (cond t ((b ∷ g) ∷ gs) ((b ∷ []) ∷ g ∷ gs))
    go true c =
        let n = tail_not_white g c in
        ⊎_elim
        (λ w. inl (w.0, rw (n, w.2, append-nil g) w.1))
        (λ e. inr (e ∙ rw (n, c)))
        (drop_end-cons is_white (b ∷ g) gs)
    go false c =
        ⊎_elim
        (λ w. inl (w.0, rw w.2 w.1))
        (λ e. inr (⊎_elim (λ w. e ∙ rw w.0) (λ k. e ∙ rw (k, c)) (drop_end-cons is_white g gs)))
        (drop_end-cons is_white (b ∷ []) (g ∷ gs))

-- the characters that stay are those of the text that stays
pub kept-chars : (s : List ℕ) → drop_end is_white (chars s) ≡ chars (trim_end s)
unfolding chars trim_end drop_end flatten
kept-chars [] = refl
kept-chars (b ∷ s) =
    ⊎_elim
    (λ w. rw w.0)
    (λ e. let k = e ∙ ap (lead b) (kept-chars s) in k ∙ ap chars (sym (ap flatten k ∙ flatten_chars (b ∷ trim_end s))))
    (lead-kept b (chars s))

-- trim_end goes byte by byte from the end: a byte goes if it and what is left behind it are one character of white space
trim-byte : (b : ℕ) (s : List ℕ) → trim_end (b ∷ s) ≡ cond (is_white (b ∷ trim_end s)) [] (b ∷ trim_end s)
unfolding chars trim_end drop_end flatten
trim-byte b s = ⊎_elim (λ w. rw (w.0, w.1)) (λ e. go (is_white (b ∷ trim_end s)) refl (e ∙ ap (lead b) (kept-chars s))) (lead-kept b (chars s))
  where
    go : (t : Bool) → is_white (b ∷ trim_end s) ≡ t → drop_end is_white (chars (b ∷ s)) ≡ chars (b ∷ trim_end s) → trim_end (b ∷ s) ≡ cond t [] (b ∷ trim_end s)
    go true w k =
        let e : drop_end is_white (chars (b ∷ s)) ≡ [] = sym (drop_end-twice is_white (chars (b ∷ s))) ∙ ap (drop_end is_white) (k ∙ chars-one b (trim_end s) (white_tails b (trim_end s) w)) ∙ rw w in
        ap flatten e
    go false w k = ap flatten k ∙ flatten_chars (b ∷ trim_end s)

trim-twice : (s : List ℕ) → trim_end (trim_end s) ≡ trim_end s
unfolding trim_end
trim-twice s = ap flatten (ap (drop_end is_white) (sym (kept-chars s)) ∙ drop_end-twice is_white (chars s))

-- LINES

-- the lines, each without the white space at its end, without the blank ones at the end
abbrev kept : List (List ℕ) → List (List ℕ)
kept ls = drop_end is_nil (map trim_end ls)

-- What becomes of a text's lines when the white space at its end goes. here: all that stays is in the first line.
-- behind: something stays behind the first line, which then stays whole.
data Cut (s : List ℕ) : Type 0 where
  here : (l : List ℕ) (ls : List (List ℕ)) → lines s ≡ l ∷ ls → trim_end s ≡ trim_end l → lines (trim_end s) ≡ trim_end s ∷ [] → kept ls ≡ [] → Cut s
  behind : (l m : List ℕ) (ls ms : List (List ℕ)) → lines s ≡ l ∷ ls → lines (trim_end s) ≡ l ∷ m ∷ ms → kept ls ≡ map trim_end (m ∷ ms) → Cut s

cut-blank : {s : List ℕ} → Cut s → trim_end s ≡ [] → kept (lines s) ≡ []
unfolding drop_end lines
cut-blank (here l ls e f g h) z = rw (e, ← f, z, h)
cut-blank (behind l m ls ms e g h) z = cc (rw z at g)

cut-kept : {s : List ℕ} → Cut s → (trim_end s ≡ [] → ⊥) → kept (lines s) ≡ map trim_end (lines (trim_end s))
unfolding drop_end
cut-kept (here l ls e f g h) z = rw (e, g, trim-twice, f, h, not_nil (trim_end l) (λ q. z (f ∙ q)))
cut-kept (behind l m ls ms e g h) z =
    rw (e, g)
    (⊎_elim (λ w. cc w.2) (λ q. q ∙ ap (λ (ks : List (List ℕ)). trim_end l ∷ ks) h) (drop_end-cons is_nil (trim_end l) (map trim_end ls)))

-- every text has a first line
pub some-line : (s : List ℕ) → (l : List ℕ) × (ls : List (List ℕ)) × (lines s ≡ l ∷ ls)
unfolding lines
some-line [] = ([], [], refl)
some-line (b ∷ s) = go (eqb b 10) (lines s)
  where
    go : (t : Bool) (ks : List (List ℕ)) → (l : List ℕ) × (ls : List (List ℕ)) × (cond t ([] ∷ ks) (in_first b ks) ≡ l ∷ ls)
    go true ks = ([], ks, refl)
    go false [] = (b ∷ [], [], refl)
    go false (k ∷ ks) = (b ∷ k, ks, refl)

-- an LF in front of a text is white space itself: it stays only where something stays behind it
cut_lf : (s : List ℕ) → Cut s → Cut (10 ∷ s)
unfolding lines is_white any same_bytes utf8 white_space trim_end chars drop_end flatten
cut_lf s k = go (trim_end s) refl
  where
    go : (t : List ℕ) → trim_end s ≡ t → Cut (10 ∷ s)
    go [] e =
        let q : trim_end (10 ∷ s) ≡ [] = trim-byte 10 s ∙ rw e in
        here [] (lines s) refl q (rw q) (cut-blank k e)
    go (c ∷ t) e =
        let q : trim_end (10 ∷ s) ≡ 10 ∷ trim_end s = trim-byte 10 s ∙ rw e in
        let (m, ms, f) = some-line (trim_end s) in
        behind [] m (lines s) ms refl (ap lines q ∙ rw f) (cut-kept k (λ z. nil≢cons (sym z ∙ e)) ∙ ap (map trim_end) f)

-- tail bytes hold no LF: no character of white space runs over into the next line
tails-line : (t : List ℕ) → all is_tail t ≡ true → lines t ≡ t ∷ []
unfolding all lines
tails-line [] h = refl
tails-line (b ∷ t) h =
    let (x, y) = and_true (is_tail b) (all is_tail t) h in
    let (u, v) = and_true (leb 0x80 b) (leb b 0xbf) x in
    rw (ne_eqb b 10 (λ q. omega (arith, leb-true 0x80 b u)), tails-line t y)

-- any other byte in front of a text joins its first line
cut-byte : (b : ℕ) (s : List ℕ) → eqb b 10 ≡ false → Cut s → Cut (b ∷ s)
unfolding lines
cut-byte b s n (here l ls e f g h) =
    here (b ∷ l) ls (rw (n, e)) (trim-byte b s ∙ ap (λ (t : List ℕ). cond (is_white (b ∷ t)) [] (b ∷ t)) f ∙ sym (trim-byte b l)) (rw (trim-byte b s) (go (is_white (b ∷ trim_end s)))) h
  where
    go : (t : Bool) → lines (cond t [] (b ∷ trim_end s)) ≡ cond t [] (b ∷ trim_end s) ∷ []
    go true = refl
    go false = rw (n, g)
cut-byte b s n (behind l m ls ms e g h) = behind (b ∷ l) m ls ms (rw (n, e)) (rw (trim-byte b s) (go (is_white (b ∷ trim_end s)) refl)) h
  where
    go : (t : Bool) → is_white (b ∷ trim_end s) ≡ t → lines (cond t [] (b ∷ trim_end s)) ≡ (b ∷ l) ∷ m ∷ ms
    go true w = cc (tails-line (trim_end s) (white_tails b (trim_end s) w))
    go false w = rw (n, g)

cutting : (s : List ℕ) → Cut s
unfolding lines trim_end chars drop_end flatten
cutting [] = here [] [] refl refl refl refl
cutting (b ∷ s) = go (eqb b 10) refl (cutting s)
  where
    go : (t : Bool) → eqb b 10 ≡ t → Cut s → Cut (b ∷ s)
    go true e k = rw (eqb-true b 10 e) (cut_lf s k)
    go false e k = cut-byte b s e k

-- THE LAWS

-- all lines of a text of white space are blank
pub blank-lines : (r : List ℕ) → trim_end r ≡ [] → drop_end is_nil (map trim_end (lines r)) ≡ []
blank-lines r z = cut-blank (cutting r) z

-- where something stays, the trimmed lines without the blank ones at the end are the trimmed lines of the trimmed text
pub kept-lines : (r : List ℕ) → (trim_end r ≡ [] → ⊥) → drop_end is_nil (map trim_end (lines r)) ≡ map trim_end (lines (trim_end r))
kept-lines r z = cut-kept (cutting r) z

-- the first of them is the first line, trimmed
pub first-kept : (r : List ℕ) → first_or [] (map trim_end (lines (trim_end r))) ≡ trim_end (first_or [] (lines r))
first-kept r = go (cutting r)
  where
    go : Cut r → first_or [] (map trim_end (lines (trim_end r))) ≡ trim_end (first_or [] (lines r))
    go (here l ls e f g h) = rw (g, e) (trim-twice r ∙ f)
    go (behind l m ls ms e g h) = rw (g, e)
