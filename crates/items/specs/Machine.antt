-- The effect of items on the lent buffers and the size, and the contract of every printer of items.
use Rattle.std.specs.Prelude.{◌≡◌, Bool, true, cond, ◌&&◌, List, [], ◌∷◌, ℕ, ◌+◌, ◌*◌, ◌^◌, ltb, length, Option, Some, None}
use Rattle.std.specs.Borrow.{MutBor}
use Rattle.std.proofs.lemmas.List.Edits.{sets}
use denote.Triple.Both.{Both}
use Rattle.text.specs.Basic.{all}
use Rattle.text.specs.Lent.{LentMut}
use Rattle.items.specs.declared.Output.{Output}
use Rattle.items.specs.declared.Size.{Size}
use Rattle.items.specs.Item.{Item}
use Rattle.items.specs.Lines.{record_line, record_lines}
use Rattle.items.specs.Records.{record_of, bytes_of, words, bytes, record_size}

-- a buffer with values stored one by one from a place on; one past its end is dropped: `set` out of range changes nothing
unfoldable pub store : List ℕ → ℕ → List ℕ → List ℕ
store buffer at vs = sets buffer at vs

-- a record at its place, the n-th from 0
abbrev pub store_record : List ℕ → ℕ → ℕ → ℕ → ℕ → List ℕ
store_record buffer n kind first second = store buffer (record_size * n) (kind ∷ first ∷ second ∷ [])

-- ---- sizes

-- nothing is put yet, of records that are to be listed or not
abbrev pub no_size : Bool → Size
no_size listed = record { records = 0; texts = 0; lines = 0; listed = listed }

-- the size after one record more, with so many bytes of text and so many to be counted of its line
abbrev pub size_after : ℕ → ℕ → Size → Size
size_after bytes line p = record { records = p.records + 1; texts = p.texts + bytes; lines = p.lines + line; listed = p.listed }

-- the size after an item; its line is counted where records are listed
abbrev pub counted : Size → Item → Size
counted p x = size_after (length (bytes_of x)) (cond p.listed (length (record_line p.records x)) 0) p

-- the size after items
abbrev pub sized : List Item → Size → Size
sized xs p =
    record {
      records = p.records + length xs;
      texts = p.texts + length (bytes xs);
      lines = p.lines + cond p.listed (length (record_lines p.records xs)) 0;
      listed = p.listed;
    }

-- each of the numbers is a u32
unfoldable pub fit : List ℕ → Bool
fit ns = all (λ n. ltb n (2 ^ 32)) ns

-- the two operands of a record and the size after it are u32s
abbrev pub countable : ℕ → ℕ → Size → Bool
countable first second p = fit (first ∷ second ∷ p.records ∷ p.texts ∷ p.lines ∷ [])

-- an item can be printed behind what has this size
abbrev pub printable : Size → Item → Bool
printable p x = let r = record_of p.texts x in countable r.first r.second (counted p x)

-- the numbers of all items fit, from this size on
unfoldable pub all_fit : List Item → Size → Bool
all_fit [] p = true
all_fit (x ∷ xs) p = printable p x && all_fit xs (counted p x)

-- Items put behind what has a size: their records and texts, as far as there is room, and the size after them.
pub record Puts (xs : List Item) (rs ts : List ℕ) (p : Size) (rs' ts' : List ℕ) (d : Size) : Type 0 where
  pub records : rs' ≡ store rs (record_size * p.records) (words p.texts xs)
  pub texts : ts' ≡ store ts p.texts (bytes xs)
  pub size : d ≡ sized xs p

-- the same of what is lent
abbrev pub PutsIn : LentMut → LentMut → Size → Size → List Item → Type 0
PutsIn records texts p d xs = Puts xs records.entry.now texts.entry.now p records.exit.now texts.exit.now d

-- ---- printing that asks whether numbers fit

-- The lent buffers, and the size of what was printed.
pub record State : Type 0 where
  pub records : List ℕ
  pub texts : List ℕ
  pub size : Size

-- How far printing has come, with every cell of the buffers: a number no longer fits, or a state.
pub data Outcome : Type 0 where
  full : List ℕ → List ℕ → Outcome
  reached : State → Outcome

-- the state after an item: its record at the end of the records, its text at the end of the texts
abbrev pub emitted : Item → State → State
emitted x σ =
    let p = σ.size in
    let r = record_of p.texts x in
    record {
      records = store_record σ.records p.records r.kind r.first r.second;
      texts = store σ.texts p.texts (bytes_of x);
      size = counted p x;
    }

-- all items in turn, up to the first with a number that no longer fits: nothing of it is stored, nor of those behind it
unfoldable pub emit_all : List Item → State → Outcome
emit_all [] σ = reached σ
emit_all (x ∷ xs) σ = cond (printable σ.size x) (emit_all xs (emitted x σ)) (full σ.records σ.texts)

-- what printing items makes of an outcome; one that is full stays as it is
unfoldable pub printing : List Item → Outcome → Outcome
printing xs (full rs ts) = full rs ts
printing xs (reached σ) = emit_all xs σ

-- what the code's answer and the buffers say
unfoldable pub seen : List ℕ → List ℕ → Option Size → Outcome
seen rs ts (Some p) = reached (record { records = rs; texts = ts; size = p })
seen rs ts None = full rs ts

-- an output in lent buffers, behind what has this size
abbrev pub output : MutBor (List ℕ) → MutBor (List ℕ) → Option Size → Output
output records texts size = record { records = records; texts = texts; size = size }

-- what is seen of an output
abbrev pub outcome : Output → Outcome
outcome h = seen h.records.now h.texts.now h.size

-- What printing leaves as it was: the buffers that are lent, and their lengths.
pub record Frame (o a : Output) : Type 0 where
  pub same_records : length a.records.now ≡ length o.records.now
  pub same_texts : length a.texts.now ≡ length o.texts.now
  pub records_lent : a.records.ghost_name ≡ o.records.ghost_name
  pub texts_lent : a.texts.ghost_name ≡ o.texts.ghost_name

-- Every printer's contract: printing xs takes o to a, in buffers that keep their lengths.
pub record Says (xs : List Item) (o a : Output) : Type 0 where
  pub ran : outcome a ≡ printing xs (outcome o)
  pub frame : Frame o a

-- an output that is lent, at the entry and at the exit of a call
abbrev pub LentOutput : Type 0
LentOutput = Both (MutBor Output) (MutBor Output)

-- the contract of a printer that is lent an output: it prints xs
abbrev pub SaysIn : LentOutput → List Item → Type 0
SaysIn out xs = Says xs out.entry.now out.exit.now
