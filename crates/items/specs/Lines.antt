-- The lines that list records: 'Fields are parted by one space, and every line ends with LF.'
use Rattle.std.specs.Prelude.{Bool, cond, ◌||◌, List, [], ◌∷◌, ◌++◌, ℕ, zero, suc, ◌+◌, ◌/◌, ◌%◌, ltb, eqb, length}
use Prim.Native.String.{String}
use Rattle.text.specs.Basic.{ascii}
use Rattle.text.specs.Words.{word_in}
use Rattle.items.specs.Item.{always, lines, Item, signal, text, mark, run, run_end, again, if_test, signal_kind}

-- the decimal digits of n, where it has at most d + 1 of them
unfoldable pub digits : ℕ → ℕ → List ℕ
digits zero n = (48 + n % 10) ∷ []
digits (suc d) n = let more = digits d (n / 10) in cond (ltb n 10) ((48 + n) ∷ []) (more ++ ((48 + n % 10) ∷ []))

-- a number in decimal
unfoldable pub decimal : ℕ → List ℕ
decimal n = digits n n

-- a name, a space and a number
abbrev pub field : String → ℕ → List ℕ
field s n = ascii s ++ (32 ∷ decimal n)

-- the names of the kinds of records by their numbers; no kind is 0, and a condition is listed with its test
unfoldable pub kind_names : List String
kind_names =
    "" ∷ "text" ∷ "newline" ∷ "space-or-newline" ∷ "tab" ∷ "indent" ∷ "outdent" ∷ "mark" ∷ "group" ∷ "group-end" ∷ "block" ∷ "block-end" ∷ "run" ∷ "run-end"
    ∷ "again" ∷ "if always" ∷ "else" ∷ "end-if"
    ∷ []

-- Document 02, Ask 2: 'Bytes of a text below 32, the byte 127 and the backslash'
abbrev pub is_escaped : ℕ → Bool
is_escaped b = ltb b 32 || (eqb b 127 || eqb b 92)

-- of a byte, 'a backslash and three octal digits'
abbrev pub octal : ℕ → List ℕ
octal b = 92 ∷ (48 + b / 64) ∷ (48 + b / 8 % 8) ∷ (48 + b % 8) ∷ []

-- what lists a byte of a text: its octal digits where it is escaped, else itself
unfoldable pub escaped_byte : ℕ → List ℕ
escaped_byte b = cond (is_escaped b) (octal b) (b ∷ [])

-- what lists a text
unfoldable pub escaped : List ℕ → List ℕ
escaped [] = []
escaped (b ∷ s) = escaped_byte b ++ escaped s

-- 'the kind's name as above, its operands (for text, the length and the text ..; for if, `always` or `lines` and the mark)'; of a text 'the length printed stays the stored one'
unfoldable pub described : Item → List ℕ
described (text s) = field "text" (length s) ++ (32 ∷ escaped s)
described (signal s) = ascii (word_in kind_names (signal_kind s))
described (mark n) = field "mark" n
described (run n) = field "run" n
described (run_end n) = field "run-end" n
described (again n) = field "again" n
described (if_test always) = ascii "if always"
described (if_test (lines n)) = field "if lines" n

-- 'one line for each record: its number, the kind's name as above, its operands'
abbrev pub record_line : ℕ → Item → List ℕ
record_line n x = decimal n ++ (32 ∷ (described x ++ (10 ∷ [])))

-- the lines of items, from number n on
unfoldable pub record_lines : ℕ → List Item → List ℕ
record_lines n [] = []
record_lines n (x ∷ xs) = record_line n x ++ record_lines (suc n) xs
