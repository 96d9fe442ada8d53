-- The names in a listing by their tables and numbers, and the length of a record's line by its words and by how many bytes of its text are escaped. Only contracts below the entry cite this.
use Rattle.std.specs.Prelude.{Bool, cond, ◌&&◌, ◌||◌, List, [], ◌∷◌, ℕ, ◌+◌, ◌*◌, leb, eqb, length, map}
use Prim.Native.String.{String}
use Rattle.text.specs.Basic.{ascii}
use Rattle.text.specs.Words.{word_in}
use Rattle.items.specs.declared.names.Table.{Table}
use Rattle.items.specs.declared.names.Table.TheVariants.{Kinds, Others}
use Rattle.items.specs.Lines.{decimal, field, kind_names}

-- the names that are no kinds: of a condition on lines, and of the counts in the first line
unfoldable pub other_names : List String
other_names = "if lines" ∷ "records" ∷ " texts" ∷ " runs" ∷ " marks" ∷ []

-- the names of a table
unfoldable pub names_of : Table → List String
names_of Kinds = kind_names
names_of Others = other_names

-- the name with a number
unfoldable pub name_at : Table → ℕ → String
name_at t w = word_in (names_of t) w

-- the lengths of the names of a table
abbrev pub name_lengths : Table → List ℕ
name_lengths t = map (λ s. length (ascii s)) (names_of t)

-- the records of this kind have one number: mark, run, run-end and again
abbrev pub has_number : ℕ → Bool
has_number k = eqb k 7 || (leb 12 k && leb k 14)

-- how many bytes list a record's kind and operands, and its text, in which so many bytes are escaped: each takes three more
unfoldable pub described_length : ℕ → ℕ → ℕ → ℕ → ℕ
described_length k a b escapes =
    cond (eqb k 1) (length (field (name_at Kinds 1) b) + 1 + b + 3 * escapes)
    (cond (eqb k 15 && eqb a 1) (length (field (name_at Others 0) b))
    (cond (has_number k) (length (field (name_at Kinds k) a))
    (length (ascii (name_at Kinds k)))))

-- how many bytes the line of record n has
abbrev pub line_length : ℕ → ℕ → ℕ → ℕ → ℕ → ℕ
line_length n k a b escapes = length (decimal n) + described_length k a b escapes + 2
