-- The record form of items, the counts, and the way back.
use Rattle.std.specs.Prelude.{cond, ◌&&◌, List, [], ◌∷◌, ◌++◌, ℕ, zero, suc, ◌+◌, leb, eqb, length, drop, take}
use Rattle.std.proofs.Math.Option.{Option, none, some}
use Rattle.items.specs.declared.Count.{Count}
use Rattle.items.specs.Item.{always, lines, Item, signal, text, newline, space_or_newline, tab, indent, outdent, mark, group, group_end, block, block_end, run, run_end, again, if_test, else_item, end_if, signal_kind}
use Rattle.items.specs.Role.{runs_of, marks_of}

-- 'Three u32 each': the words of a record
abbrev pub record_size : ℕ
record_size = 3

-- 'kind and two operands'
pub record Record : Type 0 where
  pub kind : ℕ
  pub first : ℕ
  pub second : ℕ

-- a record by its three numbers
abbrev pub three : ℕ → ℕ → ℕ → Record
three k a b = record { kind = k; first = a; second = b }

-- an item's record, where its text would stand at this offset: '0 where unused'
abbrev pub record_of : ℕ → Item → Record
record_of at (text s) = three 1 at (length s)
record_of at (signal s) = three (signal_kind s) 0 0
record_of at (mark n) = three 7 n 0
record_of at (run n) = three 12 n 0
record_of at (run_end n) = three 13 n 0
record_of at (again n) = three 14 n 0
record_of at (if_test always) = three 15 0 0
record_of at (if_test (lines n)) = three 15 1 n

-- an item's text
abbrev pub bytes_of : Item → List ℕ
bytes_of (text s) = s
bytes_of (signal s) = []
bytes_of (mark n) = []
bytes_of (run n) = []
bytes_of (run_end n) = []
bytes_of (again n) = []
bytes_of (if_test t) = []

-- the words of the record buffer, from this text offset on
unfoldable pub words : ℕ → List Item → List ℕ
words at [] = []
words at (x ∷ xs) = let r = record_of at x in r.kind ∷ r.first ∷ r.second ∷ words (at + length (bytes_of x)) xs

-- the bytes of the text buffer: 'texts appended in record order'
unfoldable pub bytes : List Item → List ℕ
bytes [] = []
bytes (x ∷ xs) = bytes_of x ++ bytes xs

-- the counts of items: 'all of them, the bytes of their texts, the `run`s, the `mark`s'
abbrev pub counts_of : List Item → Count
counts_of xs = record { records = length xs; texts = length (bytes xs); runs = runs_of xs; marks = marks_of xs }

-- a lent buffer after a call that writes xs: it begins with xs and goes on as it was
abbrev pub overlaid : List ℕ → List ℕ → List ℕ
overlaid xs buffer = xs ++ drop (length xs) buffer

-- THE WAY BACK

-- an item with no operands
abbrev pub bare : Item → ℕ → ℕ → Option Item
bare x a b = cond (eqb a 0 && eqb b 0) (some x) none

-- an item with one operand
abbrev pub with_operand : (ℕ → Item) → ℕ → ℕ → Option Item
with_operand f a b = cond (eqb b 0) (some (f a)) none

-- a condition
abbrev pub condition : ℕ → ℕ → Option Item
condition a b =
    cond (eqb a 0) (cond (eqb b 0) (some (if_test always)) none)
    (cond (eqb a 1) (some (if_test (lines b))) none)

-- a text by its offset and length in the text buffer
abbrev pub stored : List ℕ → ℕ → ℕ → Option Item
stored ts a b = cond (leb (a + b) (length ts)) (some (text (take b (drop a ts)))) none

-- the item of a record
unfoldable pub item_of : List ℕ → ℕ → ℕ → ℕ → Option Item
item_of ts k a b =
    cond (eqb k 1) (stored ts a b)
    (cond (eqb k 2) (bare newline a b)
    (cond (eqb k 3) (bare space_or_newline a b)
    (cond (eqb k 4) (bare tab a b)
    (cond (eqb k 5) (bare indent a b)
    (cond (eqb k 6) (bare outdent a b)
    (cond (eqb k 7) (with_operand mark a b)
    (cond (eqb k 8) (bare group a b)
    (cond (eqb k 9) (bare group_end a b)
    (cond (eqb k 10) (bare block a b)
    (cond (eqb k 11) (bare block_end a b)
    (cond (eqb k 12) (with_operand run a b)
    (cond (eqb k 13) (with_operand run_end a b)
    (cond (eqb k 14) (with_operand again a b)
    (cond (eqb k 15) (condition a b)
    (cond (eqb k 16) (bare else_item a b)
    (cond (eqb k 17) (bare end_if a b)
    none))))))))))))))))

-- an item in front of others, where both are there
abbrev pub cons : Option Item → Option (List Item) → Option (List Item)
cons none ys = none
cons (some x) none = none
cons (some x) (some ys) = some (x ∷ ys)

-- the items of n records, from the words of the record buffer and the bytes of the text buffer
unfoldable pub decoded : List ℕ → List ℕ → ℕ → Option (List Item)
decoded ws ts zero = some []
decoded [] ts (suc n) = none
decoded (k ∷ []) ts (suc n) = none
decoded (k ∷ a ∷ []) ts (suc n) = none
decoded (k ∷ a ∷ b ∷ ws) ts (suc n) = cons (item_of ts k a b) (decoded ws ts n)
