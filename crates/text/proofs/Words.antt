-- Each word of a table stands in the joined words from where it starts up to where the next one starts.
use mathlib.Core.Path.{◌≡◌, refl, sym}
use mathlib.Core.List.{List, [], ◌∷◌, ◌++◌, flatten, map}
use Prim.Native.Nat.{ℕ, zero, suc, ◌+◌, ◌-◌, ◌<◌, ◌≤◌}
use Prim.Native.String.{String}
use native.Mathlib.Omega.{arith}
use native.Mathlib.Numerals.{add-one}
use lib.ListN.{length, take, drop, length-append}
use lib.Seq.{take-append_seam, drop-append_seam, drop-drop}
use Rattle.text.specs.Basic.{ascii}
use Rattle.text.specs.Words.{word_in, joined_words, word_start}

-- behind the first word the others start later by its length
start-behind : (x : String) (ws : List String) (w : ℕ) → word_start (x ∷ ws) (suc w) ≡ length (ascii x) + word_start ws w
unfolding flatten
start-behind x ws w = length-append (ascii x) (flatten (take w (map ascii ws)))

start_first : (ws : List String) → word_start ws 0 ≡ 0
unfolding flatten
start_first ws = refl

-- so far it is from one start to the next
start-next : (ws : List String) (w : ℕ) → w < length ws → word_start ws (suc w) ≡ word_start ws w + length (ascii (word_in ws w))
start-next [] w h = absurd (omega arith)
start-next (x ∷ ws) zero h = omega (arith, start-behind x ws 0, start_first ws, start_first (x ∷ ws))
start-next (x ∷ ws) (suc w) h = omega (arith, start-behind x ws (suc w), start-behind x ws w, start-next ws w (omega arith))

-- no word starts behind the end
start-upto : (ws : List String) (w : ℕ) → w ≤ length ws → word_start ws w ≤ length (joined_words ws)
unfolding flatten
start-upto ws zero h = omega arith
start-upto [] (suc w) h = absurd (omega arith)
start-upto (x ∷ ws) (suc w) h = omega (arith, start-behind x ws w, start-upto ws w (omega arith), length-append (ascii x) (joined_words ws))

-- the word stands where it starts
word_at_lem : (ws : List String) (w : ℕ) → w < length ws → take (length (ascii (word_in ws w))) (drop (word_start ws w) (joined_words ws)) ≡ ascii (word_in ws w)
unfolding flatten
word_at_lem [] w h = absurd (omega arith)
word_at_lem (x ∷ ws) zero h = take-append_seam (ascii x) (joined_words ws)
word_at_lem (x ∷ ws) (suc w) h =
    rw (start-behind x ws w, ← (drop-drop (word_start ws w) (length (ascii x)) (ascii x ++ joined_words ws)), drop-append_seam (ascii x) (joined_words ws)) (word_at_lem ws w (omega arith))

-- ---- of code that has read two starts

module _ (ws : List String) (w : ℕ) {a b : ℕ} (h : w < length ws) (e : a ≡ word_start ws w) (f : b ≡ word_start ws (w + 1)) where
  next-is : b ≡ a + length (ascii (word_in ws w))
  next-is = rw (f, e, add-one w) (start-next ws w h)

  pub start_le : a ≤ b
  start_le = omega (arith, next-is)

  pub end-in : b ≤ length (joined_words ws)
  end-in = rw (f, add-one w) (start-upto ws (suc w) (omega arith))

  -- what stands from one start to the next is the word
  pub word-part : ascii (word_in ws w) ≡ take (b - a) (drop a (joined_words ws))
  word-part =
      let n : b - a ≡ length (ascii (word_in ws w)) = omega (arith, next-is) in
      rw (n, e) (sym (word_at_lem ws w h))
