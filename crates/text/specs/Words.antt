-- A table of words by their numbers, and all of them joined, as code keeps them in one byte string.
use mathlib.Core.List.{List, flatten, map}
use Rattle.std.specs.Prelude.{ℕ, length, get_or, take}
use Prim.Native.String.{String}
use Rattle.text.specs.Basic.{ascii}

-- the word with a number, which is empty behind the last
abbrev pub word_in : List String → ℕ → String
word_in ws w = get_or ws w ""

-- all words joined
abbrev pub joined_words : List String → List ℕ
joined_words ws = flatten (map ascii ws)

-- where the word with a number starts among them, which is where the one before it ends
abbrev pub word_start : List String → ℕ → ℕ
word_start ws w = length (flatten (take w (map ascii ws)))
