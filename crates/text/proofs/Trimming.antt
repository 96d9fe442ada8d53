-- The first and the last character of a text, and white space taken off its ends.
use mathlib.Core.Path.{◌≡◌, refl, ap, ◌∙◌, sym}
use mathlib.Core.Bool.{Bool, true, false, cond}
use mathlib.Core.List.{List, [], ◌∷◌, ◌++◌, flatten, reverse}
use Prim.Native.Nat.{ℕ, suc, ◌+◌, ◌-◌, ◌<◌, ◌≤◌}
use native.Mathlib.Omega.{arith}
use lib.Dec.{ltb}
use borrow.Author.Tests.{ltb-true, ltb-false, lt-leb}
use lib.ListN.{length, take, drop, get_or, take-append-drop, length-drop}
use lib.Seq.{drop-cons}
use Rattle.std.specs.List.{prefix_len, suffix_len}
use Rattle.std.proofs.lemmas.List.{get_or-reverse, get_or-drop, length-reverse}
use Rattle.std.proofs.lemmas.List.Recursion.{and_from_places}
use Rattle.std.proofs.lemmas.List.Sums.{prefix_len-le-length, prefix_len_passes, prefix_len_stops}
use Rattle.text.specs.Basic.{all, drop_while, drop_end}
use Rattle.text.specs.Text.{continues, lead, chars, is_white, trim_end, trim_start, trim}
use Rattle.text.specs.Places.{FirstChar, LastChar}
use Rattle.text.proofs.BlankLines.{kept-chars}
use Rattle.text.proofs.Ends.{drop_end_white, drop_end-stop}
use Rattle.text.proofs.Chars.{is_tail, flatten_chars, chars-one, chars-append}

-- THE FIRST CHARACTER

-- a byte and the tails behind it
first-chars : (b : ℕ) (t : List ℕ) → chars (b ∷ t) ≡ (b ∷ take (prefix_len is_tail t) t) ∷ chars (drop (prefix_len is_tail t) t)
unfolding chars lead
first-chars b [] = refl
first-chars b (c ∷ t) = go (is_tail c) refl (first-chars c t)
  where
    go : (q : Bool) → is_tail c ≡ q → chars (c ∷ t) ≡ (c ∷ take (prefix_len is_tail t) t) ∷ chars (drop (prefix_len is_tail t) t)
        → lead b (chars (c ∷ t)) ≡ (b ∷ take (cond q (1 + prefix_len is_tail t) 0) (c ∷ t)) ∷ chars (drop (cond q (1 + prefix_len is_tail t) 0) (c ∷ t))
    go true e h =
        let n : 1 + prefix_len is_tail t ≡ suc (prefix_len is_tail t) = omega arith in
        rw (h, e, n)
    go false e h = rw (h, e)

pub first_char : (s : List ℕ) (n : ℕ) → 0 < length s → n ≡ prefix_len is_tail (drop 1 s) → FirstChar s (1 + n)
first_char [] n h e = absurd (omega arith)
first_char (b ∷ t) n h e =
    let k : 1 + n ≡ suc (prefix_len is_tail t) = omega arith in
    record { past = omega arith; upto = omega (arith, prefix_len-le-length is_tail t); first = rw k (first-chars b t) }

-- THE LAST CHARACTER

module _ (s : List ℕ) (n j : ℕ) (e : n ≡ suffix_len is_tail s) where
  -- what stands behind it are tails
  tails-behind : length s ≤ suc j + n → all is_tail (drop (suc j) s) ≡ true
  unfolding all
  tails-behind h = and_from_places (all is_tail) is_tail refl (λ x xs. refl) (drop (suc j) s) 0 at_place
    where
      at_place : (i : ℕ) → i < length (drop (suc j) s) → is_tail (get_or (drop (suc j) s) i 0) ≡ true
      at_place i l =
          let m : suc j + i < length s = omega (arith, length-drop (suc j) s) in
          let k : length s - 1 - (suc j + i) < prefix_len is_tail (reverse s) = omega (arith, e) in
          let o : length s - 1 - (length s - 1 - (suc j + i)) ≡ suc j + i = omega arith in
          rw (get_or-drop) (rw (get_or-reverse s (length s - 1 - (suc j + i)) 0 (omega arith), o) at (prefix_len_passes is_tail (reverse s) (length s - 1 - (suc j + i)) 0 k))

  -- in front of them stands no tail, if anything does
  no-tail : j < length s → j + 1 + n ≡ length s → continues (drop j s) ≡ false
  no-tail l h =
      let o : length s - 1 - n ≡ j = omega arith in
      rw (drop-cons s j 0 l) (rw (← e, get_or-reverse s n 0 (omega arith), o) at (prefix_len_stops is_tail (reverse s) 0 (rw length-reverse (omega (arith, e)))))

  pub last_char : 0 < length s → j ≡ length s - (n + 1) → LastChar s j
  unfolding chars
  last_char h q = record { before = omega arith; last = go (ltb n (length s)) refl }
    where
      one : chars (drop j s) ≡ drop j s ∷ []
      one = rw (drop-cons s j 0 (omega arith)) (chars-one (get_or s j 0) (drop (suc j) s) (tails-behind (omega arith)))

      go : (b : Bool) → ltb n (length s) ≡ b → chars s ≡ chars (take j s) ++ (drop j s ∷ [])
      go true t =
          let l : n < length s = ltb-true _ _ t in
          ap chars (sym (take-append-drop j s)) ∙ chars-append (take j s) (drop j s) (no-tail (omega arith) (omega arith)) ∙ ap (λ (g : List (List ℕ)). chars (take j s) ++ g) one
      go false t =
          let l : length s ≤ n = ltb-false _ _ t in
          let z : j ≡ 0 = omega arith in
          rw z (rw z at one)

-- an ASCII byte at the end is a character by itself
pub ascii_last : (s front : List ℕ) (b : ℕ) → s ≡ front ++ (b ∷ []) → b < 0x80 → chars s ≡ chars front ++ ((b ∷ []) ∷ [])
unfolding chars lead
ascii_last s front b e h = rw e (chars-append front (b ∷ []) (rw (lt-leb 0x80 b h)))

-- WHITE SPACE AT THE END

module _ (s front last : List ℕ) (c : chars s ≡ chars front ++ (last ∷ [])) where
  -- a character of white space goes
  pub last-goes : is_white last ≡ true → trim_end front ≡ trim_end s
  unfolding trim_end
  last-goes w = ap flatten (sym (drop_end_white is_white (chars front) last w) ∙ ap (drop_end is_white) (sym c))

  -- any other keeps all
  pub last-stays : is_white last ≡ false → s ≡ trim_end s
  unfolding trim_end
  last-stays w = sym (flatten_chars s) ∙ ap flatten (c ∙ sym (drop_end-stop is_white (chars front) last w) ∙ ap (drop_end is_white) (sym c))

pub nothing-trimmed : (s : List ℕ) → length s ≡ 0 → s ≡ trim_end s
unfolding trim_end chars drop_end flatten
nothing-trimmed [] h = refl
nothing-trimmed (b ∷ s) h = absurd (omega arith)

-- WHITE SPACE AT THE START

module _ {s : List ℕ} {j : ℕ} (c : FirstChar s j) where
  pub first-goes : is_white (take j s) ≡ true → trim_start (drop j s) ≡ trim_start s
  unfolding trim_start drop_while
  first-goes w = rw (c.first, w)

  pub first-stays : is_white (take j s) ≡ false → s ≡ trim_start s
  unfolding trim_start drop_while
  first-stays w = rw (c.first, w) (sym (flatten_chars s) ∙ ap flatten c.first)

pub nothing-started : (s : List ℕ) → length s ≡ 0 → s ≡ trim_start s
unfolding trim_start chars drop_while flatten
nothing-started [] h = refl
nothing-started (b ∷ s) h = absurd (omega arith)

-- AT BOTH ENDS

pub trim_both : (s : List ℕ) → trim_start (trim_end s) ≡ trim s
unfolding trim_start trim
trim_both s = ap (λ (g : List (List ℕ)). flatten (drop_while is_white g)) (sym (kept-chars s))
