-- What the functions that emit, and those that advance a size, are handed and promise. Only contracts of private functions cite this.
use Rattle.std.specs.Prelude.{◌≡◌, Bool, cond, List, ℕ, ◌+◌, ◌<◌, ◌^◌, length, Option, Some, None}
use Rattle.std.specs.List.{count_by}
use Rattle.items.specs.declared.Entry.{Entry}
use Rattle.items.specs.declared.Output.{Output}
use Rattle.items.specs.declared.Size.{Size}
use Rattle.items.specs.Item.{Item}
use Rattle.items.specs.Lines.{is_escaped}
use Rattle.items.specs.Names.{line_length}
use Rattle.items.specs.Records.{record_of, bytes_of}
use Rattle.items.specs.Machine.{store_record, size_after, countable, Frame}

-- how many bytes of a text are escaped, counted where records are listed
abbrev pub escapes_if : Bool → List ℕ → ℕ
escapes_if listed s = cond listed (count_by is_escaped s) 0

-- an item's entry, where its text would stand at this offset, of records that are listed or not
abbrev pub entry_of : ℕ → Bool → Item → Entry
entry_of at listed x =
    let r = record_of at x in
    record { kind = r.kind; first = r.first; second = r.second; bytes = length (bytes_of x); escapes = escapes_if listed (bytes_of x) }

-- an entry with no text
abbrev pub plain_entry : ℕ → ℕ → ℕ → Entry
plain_entry kind first second = record { kind = kind; first = first; second = second; bytes = 0; escapes = 0 }

-- the bytes to be counted of an entry's line: none where records are not listed
abbrev pub line_of : Entry → Size → ℕ
line_of e p = cond p.listed (line_length p.records e.kind e.first e.second e.escapes) 0

-- the size after an entry
abbrev pub grown_by : Entry → Size → Size
grown_by e p = size_after e.bytes (line_of e p) p

-- The numbers of the size after a record with so many bytes of text and of its line are u32s.
pub record RoomAfter (bytes line : ℕ) (p : Size) : Type 0 where
  pub records : p.records + 1 < 2 ^ 32
  pub texts : p.texts + bytes < 2 ^ 32
  pub lines : p.lines + line < 2 ^ 32

-- the records with an entry's record at its place
abbrev pub store_entry : Entry → Size → List ℕ → List ℕ
store_entry e p rs = store_record rs p.records e.kind e.first e.second

-- an entry's line, where the entry can be counted
unfoldable pub room_for : Entry → Size → Option ℕ
room_for e p = cond (countable e.first e.second (grown_by e p)) (Some (line_of e p)) None

-- printing goes on by an entry where its numbers fit, and else is full
unfoldable pub continued : Entry → Option Size → Option Size
continued e (Some p) = cond (countable e.first e.second (grown_by e p)) (Some (grown_by e p)) None
continued e None = None

-- the records after that: an entry that does not fit changes none
unfoldable pub recorded : Entry → Option Size → List ℕ → List ℕ
recorded e (Some p) rs = cond (countable e.first e.second (grown_by e p)) (store_entry e p rs) rs
recorded e None rs = rs

-- Emitting an entry takes o to a: the texts are not touched.
pub record Emits (e : Entry) (o a : Output) : Type 0 where
  pub size : a.size ≡ continued e o.size
  pub records : a.records.now ≡ recorded e o.size o.records.now
  pub texts : a.texts.now ≡ o.texts.now
  pub frame : Frame o a
