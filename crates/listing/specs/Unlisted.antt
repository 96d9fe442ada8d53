-- A listing read back. Document 02, Ask 2: 'Equal listings must then mean equal records and texts.'
use Rattle.std.specs.Prelude.{cond, List, [], ◌∷◌, ℕ, zero, suc, ◌+◌, ◌*◌, ◌-◌, eqb, drop, get_or}
use Prim.Native.String.{String}
use Rattle.text.specs.Basic.{ascii, same_bytes}
use Rattle.text.specs.Text.{lines as lines_of}
use Rattle.items.specs.Item.{Test, always, lines, Item, text, if_test, plain_item}
use Rattle.items.specs.Lines.{kind_names}

-- ---- fields

-- a field: what stands before the first space
unfoldable pub word : List ℕ → List ℕ
word [] = []
word (b ∷ s) = let more = word s in cond (eqb b 32) [] (b ∷ more)

-- the fields behind it: what stands behind the first space
unfoldable pub behind : List ℕ → List ℕ
behind [] = []
behind (b ∷ s) = let more = behind s in cond (eqb b 32) s more

-- a number by its decimal digits, where those before them are worth n
unfoldable pub value_from : ℕ → List ℕ → ℕ
value_from n [] = n
value_from n (d ∷ ds) = value_from (n * 10 + (d - 48)) ds

-- the number in the first field
abbrev pub number : List ℕ → ℕ
number s = value_from 0 (word s)

-- ---- texts

-- a byte by the three octal digits in front of s
abbrev pub octal_value : List ℕ → ℕ
octal_value s = (get_or s 0 0 - 48) * 64 + (get_or s 1 0 - 48) * 8 + (get_or s 2 0 - 48)

-- a text of n bytes by what lists it: a backslash and three octal digits are a byte, and so is any other byte
unfoldable pub unescaped : ℕ → List ℕ → List ℕ
unescaped zero s = []
unescaped (suc n) [] = []
unescaped (suc n) (b ∷ s) = let escape = octal_value s ∷ unescaped n (drop 3 s) in let itself = b ∷ unescaped n s in cond (eqb b 92) escape itself

-- ---- lines

-- the number of a name
unfoldable pub name_number : List ℕ → List String → ℕ
name_number w [] = 0
name_number w (n ∷ ns) = let more = suc (name_number w ns) in cond (same_bytes w (ascii n)) 0 more

-- what a condition tests
abbrev pub read_test : List ℕ → Test
read_test s = cond (same_bytes (word s) (ascii "always")) always (lines (number (behind s)))

-- the item of a line behind its number
unfoldable pub read_item : List ℕ → Item
read_item s =
    let operands = behind s in
    cond (same_bytes (word s) (ascii "text")) (text (unescaped (number operands) (behind operands)))
    (cond (same_bytes (word s) (ascii "if")) (if_test (read_test operands))
    (plain_item (name_number (word s) kind_names) (number operands)))

-- the items of lines; nothing stands behind the last LF
unfoldable pub read_lines : List (List ℕ) → List Item
read_lines [] = []
read_lines (l ∷ []) = []
read_lines (l ∷ m ∷ ls) = read_item (behind l) ∷ read_lines (m ∷ ls)

-- the items of a listing: those of its lines but the first
unfoldable pub unlisted : List ℕ → List Item
unlisted s = read_lines (drop 1 (lines_of s))
