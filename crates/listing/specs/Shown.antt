-- What the private functions write, by the numbers of records and of names. Only contracts of private functions cite this.
use Rattle.std.specs.Prelude.{◌≡◌, cond, ◌&&◌, List, [], ◌∷◌, ◌++◌, ℕ, zero, suc, ◌+◌, ◌*◌, ◌<◌, ◌≤◌, eqb, length, get_or, take, drop}
use Rattle.text.specs.Basic.{ascii}
use Rattle.items.specs.Lines.{decimal, field, escaped, kind_names}
use Rattle.items.specs.Names.{name_at, has_number}
use Rattle.items.specs.declared.names.Table.TheVariants.{Kinds, Others}
use Rattle.items.specs.Records.{record_size}

-- 'for text, the length and the text', by its offset and length
unfoldable pub listed_text : List ℕ → ℕ → ℕ → List ℕ
listed_text ts a b = field (name_at Kinds 1) b ++ (32 ∷ escaped (take b (drop a ts)))

-- a record's kind and operands
unfoldable pub shown : List ℕ → ℕ → ℕ → ℕ → List ℕ
shown ts k a b =
    cond (eqb k 1) (listed_text ts a b)
    (cond (eqb k 15 && eqb a 1) (field (name_at Others 0) b)
    (cond (has_number k) (field (name_at Kinds k) a)
    (ascii (name_at Kinds k))))

-- A record that can be shown: its kind is known, and a text lies in the text buffer.
pub record Readable (ts : List ℕ) (k a b : ℕ) : Type 0 where
  pub known : k < length kind_names
  pub inside : k ≡ 1 → a + b ≤ length ts

-- Record i lies in the record buffer and can be shown.
pub record Line (rs ts : List ℕ) (i : ℕ) : Type 0 where
  pub inside : record_size * i + record_size ≤ length rs
  pub known : Readable ts (get_or rs (record_size * i) 0) (get_or rs (record_size * i + 1) 0) (get_or rs (record_size * i + 2) 0)

-- the line of record i
unfoldable pub line_at : List ℕ → List ℕ → ℕ → List ℕ
line_at rs ts i = decimal i ++ (32 ∷ (shown ts (get_or rs (record_size * i) 0) (get_or rs (record_size * i + 1) 0) (get_or rs (record_size * i + 2) 0) ++ (10 ∷ [])))

-- the lines of m records from record i on
unfoldable pub lines_from : List ℕ → List ℕ → ℕ → ℕ → List ℕ
lines_from rs ts i zero = []
lines_from rs ts i (suc m) = line_at rs ts i ++ lines_from rs ts (suc i) m
