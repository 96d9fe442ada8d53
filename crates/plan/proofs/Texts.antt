-- The formatter's own texts, each in its place among all of them.
use Rattle.std.specs.Prelude.{◌≡◌, ℕ, ◌+◌, ◌-◌, ◌<◌, ◌≤◌, List, [], ◌∷◌, length, take, drop}
use mathlib.Core.Path.{refl, sym, ap, ◌∙◌}
use mathlib.Core.List.{flatten, map}
use Rattle.std.proofs.Common.{length-append}
use lib.ListN.{get_or-eq_default}
use Rattle.text.specs.Basic.{ascii}
use borrow.Author.Tests.{eq-eqb, ne_eqb}
use Rattle.text.specs.Words.{joined_words, word_start}
use Rattle.text.proofs.Words as W
use Rattle.items.specs.Item.{none, lit}
use Rattle.plan.specs.Words.{words, word_at, word_or_none, word_count}

-- how many bytes texts have in all
abbrev pub bytes : List (List ℕ) → ℕ
bytes [] = 0
bytes (s ∷ ss) = length s + bytes ss

joined_bytes : (ss : List (List ℕ)) → length (flatten ss) ≡ bytes ss
unfolding flatten
joined_bytes [] = refl
joined_bytes (s ∷ ss) = length-append s (flatten ss) ∙ ap (λ (n : ℕ). length s + n) (joined_bytes ss)

-- a text starts behind the bytes of those before it
pub starts : (w : ℕ) → word_start words w ≡ bytes (take w (map ascii words))
starts w = joined_bytes (take w (map ascii words))

-- there are so many
words-counted : length words ≡ word_count
unfolding words
words-counted = refl

pub start_le : (w : ℕ) {a b : ℕ} → w < word_count → a ≡ word_start words w → b ≡ word_start words (w + 1) → a ≤ b
start_le w h e f = W.start_le words w (rw words-counted h) e f

module _ (w : ℕ) {all : List ℕ} {a b : ℕ} (g : all ≡ joined_words words) (h : w < word_count) (e : a ≡ word_start words w) (f : b ≡ word_start words (w + 1)) where
  pub end_of : b ≤ length all
  end_of = rw g (W.end-in words w (rw words-counted h) e f)

  -- what stands from where a text starts to where the next one starts is the text
  pub word_at_lem : take (b - a) (drop a all) ≡ ascii (word_at w)
  word_at_lem = rw g (sym (W.word-part words w (rw words-counted h) e f))

-- behind the last one there is none
pub no_word : (w : ℕ) → word_count ≤ w → [] ≡ ascii (word_at w)
no_word w h = let k : length words ≤ w = rw words-counted h in rw (get_or-eq_default words "" k) refl

-- number 0 prints nothing
pub word_none : (w : ℕ) → w ≡ 0 → word_or_none w ≡ none
unfolding word_or_none
word_none w h = rw (eq-eqb w 0 h)

-- any other prints its text
pub word_some : (w : ℕ) → (w ≡ 0 → ⊥) → word_or_none w ≡ lit (word_at w)
unfolding word_or_none
word_some w h = rw (ne_eqb w 0 h)
