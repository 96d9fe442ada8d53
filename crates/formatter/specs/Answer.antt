-- What a call answers, and what it leaves in the lent buffers.
use Rattle.std.specs.Prelude.{cond, List, ℕ, ◌*◌, ltb, length}
use Rattle.std.proofs.Math.Option.{Option, none, some}
use Rattle.numbers.specs.declared.mode.Mode.{Mode}
use Rattle.items.specs.Item.{Item, Out, stop, ok, in_mode}
use Rattle.items.specs.Records.{words, bytes, counts_of, overlaid, record_size}
use Rattle.tree.specs.Tree.{tree_of}
use Rattle.tree.specs.Refusal.{Refusal, refusal}
use Rattle.listing.specs.Listing.{listing}
use Rattle.printer.specs.Print.{source_file}
use Rattle.items.specs.declared.Count.{Count}

-- What tests say of an image: 'the number and the first offending element', or its items.
pub data Verdict : Type 0 where
  turned_away : ℕ → ℕ → Verdict
  printed : List Item → Verdict

-- 10: 'Printing reaches a place where the Rust stops'
unfoldable pub from_printing : Out → Verdict
from_printing (stop xs e) = turned_away 10 e
from_printing (ok xs k) = printed xs

-- what the tests 1 to 9 say, and then the printing
unfoldable pub from_tests : Option Refusal → Verdict → Verdict
from_tests (some r) v = turned_away r.number r.element
from_tests none v = v

-- the tests 1 to 10 in order, which no buffer matters to, and the items that a mode prints
unfoldable pub verdict : Mode → List ℕ → Verdict
verdict m image = from_tests (refusal image) (from_printing (source_file (tree_of image) (in_mode m) 0))

-- 11: 'The record buffer is too short', by its words, three for each record; 12: 'The text buffer is too short'
unfoldable pub with_room : ℕ → ℕ → Verdict → Verdict
with_room words room (turned_away n e) = turned_away n e
with_room words room (printed xs) =
    cond (ltb words (record_size * length xs)) (turned_away 11 0)
    (cond (ltb room (length (bytes xs))) (turned_away 12 0)
    (printed xs))

-- 13: 'The listing buffer, where a listing was asked for, is too short'
unfoldable pub with_listing : Option (List ℕ) → Verdict → Verdict
with_listing none v = v
with_listing (some ls) (turned_away n e) = turned_away n e
with_listing (some ls) (printed xs) = cond (ltb (length ls) (length (listing xs))) (turned_away 13 0) (printed xs)

-- the thirteen tests in order, for a mode, an image and the contents of the lent buffers at entry, that of the listing where one was asked for
unfoldable pub ruling : Mode → List ℕ → List ℕ → List ℕ → Option (List ℕ) → Verdict
ruling m image rs ts ls = with_listing ls (with_room (length rs) (length ts) (verdict m image))

-- 'the answer is the number and the first offending element'; 'Success gives records, text bytes, runs and marks, and for a listing its length'.
pub data Answer : Type 0 where
  refused : ℕ → ℕ → Answer
  done : Count → Option ℕ → Answer

-- the length of a listing that was asked for
abbrev pub length_of : Option (List ℕ) → List Item → Option ℕ
length_of none xs = none
length_of (some ls) xs = some (length (listing xs))

-- the answer by what the tests say
unfoldable pub answer_of : Option (List ℕ) → Verdict → Answer
answer_of ls (turned_away n e) = refused n e
answer_of ls (printed xs) = done (counts_of xs) (length_of ls xs)

-- what a call answers
unfoldable pub answer : Mode → List ℕ → List ℕ → List ℕ → Option (List ℕ) → Answer
answer m image rs ts ls = answer_of ls (ruling m image rs ts ls)

-- 'Buffers are written only after all tests': a buffer begins with what is written and goes on as it was, or is as it was
unfoldable pub buffer_of : (List Item → List ℕ) → Verdict → List ℕ → List ℕ
buffer_of f (turned_away n e) buffer = buffer
buffer_of f (printed xs) buffer = overlaid (f xs) buffer

-- every word of the record buffer after a call
unfoldable pub records_after : Mode → List ℕ → List ℕ → List ℕ → Option (List ℕ) → List ℕ
records_after m image rs ts ls = buffer_of (words 0) (ruling m image rs ts ls) rs

-- every byte of the text buffer after a call
unfoldable pub texts_after : Mode → List ℕ → List ℕ → List ℕ → Option (List ℕ) → List ℕ
texts_after m image rs ts ls = buffer_of bytes (ruling m image rs ts ls) ts

-- every byte of the listing buffer after a call that asked for a listing
unfoldable pub listing_after : Mode → List ℕ → List ℕ → List ℕ → List ℕ → List ℕ
listing_after m image rs ts ls = buffer_of listing (ruling m image rs ts (some ls)) ls
