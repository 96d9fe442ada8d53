-- What the entries answer for what they are lent, and what the functions below them answer.
use Rattle.std.specs.Prelude.{◌≡◌, Bool, true, false, cond, ◌&&◌, List, ℕ, ◌+◌, ◌*◌, ◌<◌, ◌≤◌, ltb, leb, length, Some, None, Ok, Err, ⊤}
use Rattle.std.specs.declared.option.Option as std
use Rattle.std.specs.declared.result.Result.{Result}
use Rattle.std.proofs.Math.Option.{Option, none, some}
use Rattle.std.specs.Borrow.{MutBor}
use denote.Triple.Both.{Both}
use Rattle.text.specs.Lent.{Lent, LentMut}
use Rattle.numbers.specs.declared.mode.Mode.{Mode}
use Rattle.numbers.specs.declared.Element.{Element}
use Rattle.numbers.specs.declared.refusal.Reason.TheVariants.{RecordsTooShort, TextsTooShort, ListingTooShort}
use Rattle.items.specs.Item.{Item, stop, ok, in_mode}
use Rattle.items.specs.Role.{runs_of}
use Rattle.items.specs.Records.{record_size}
use Rattle.items.specs.declared.Size.{Size}
use Rattle.tree.specs.Tree.{count_n, count_b, tree_of}
use Rattle.tree.specs.Refusal.{refusal}
use Rattle.tree.specs.Index.{index_size}
use Rattle.plan.specs.Ops.{decoded}
use Rattle.tree.specs.Source.{source_at, LentTree}
use Rattle.printer.specs.Print.{source_file}
use Rattle.items.specs.declared.Count.{Count}
use Rattle.numbers.specs.declared.refusal.Reason.{Reason}
use Rattle.formatter.specs.declared.serve.Wanted.{Wanted}
use Rattle.formatter.specs.declared.serve.Buffers.{Buffers}
use Rattle.plan.specs.declared.Plan.{Plan}
use Rattle.plan.specs.declared.Halt.{Halt}
use Rattle.plan.specs.declared.Halt.TheVariants.{Stopped, Full}
use Rattle.formatter.specs.Answer.{Answer, done, answer, records_after, texts_after, listing_after}
use Rattle.formatter.specs.Answered.{Answered, ReadBack}
use Rattle.formatter.specs.Reply.{ListAnswer, reply_to}

-- ---- the entries

-- what a call in a mode is answered that is lent an image, the records and the texts, and a listing buffer where a listing is asked for
abbrev pub answer_in : Lent → Mode → LentMut → LentMut → Option (List ℕ) → Answer
answer_in image m records texts ls = answer m image.entry.now records.entry.now texts.entry.now ls

-- what it leaves in the records and in the texts
abbrev pub records_in : Lent → Mode → LentMut → LentMut → Option (List ℕ) → List ℕ
records_in image m records texts ls = records_after m image.entry.now records.entry.now texts.entry.now ls

abbrev pub texts_in : Lent → Mode → LentMut → LentMut → Option (List ℕ) → List ℕ
texts_in image m records texts ls = texts_after m image.entry.now records.entry.now texts.entry.now ls

-- and in the listing buffer
abbrev pub listing_in : Lent → Mode → LentMut → LentMut → LentMut → List ℕ
listing_in image m records texts listing = listing_after m image.entry.now records.entry.now texts.entry.now listing.entry.now

-- a listing is asked for
abbrev pub listed : LentMut → Option (List ℕ)
listed listing = some listing.entry.now

-- what holds of the buffers that come back, where the answer has counts
abbrev pub AnsweredIn : Lent → Mode → LentMut → LentMut → Answer → Type 0
AnsweredIn image m records texts a = (c : Count) (n : Option ℕ) → a ≡ done c n → Answered m image.entry.now records.exit.now texts.exit.now c

-- and where it has the length of a listing
abbrev pub ReadBackIn : LentMut → LentMut → LentMut → Answer → Type 0
ReadBackIn records texts listing a = (c : Count) (n : ℕ) → a ≡ done c (some n) → ReadBack records.exit.now texts.exit.now listing.exit.now c n

-- ---- both at once

-- a listing is asked for, or none
abbrev pub asked : Bool → List ℕ → Option (List ℕ)
asked true ls = some ls
asked false ls = none

-- An answer and the buffers that come back are those of the definition.
pub record Served (m : Mode) (image rs ts ls : List ℕ) (listed : Bool) (rs' ts' ls' : List ℕ) (a : Answer) : Type 0 where
  pub answers : a ≡ answer m image rs ts (asked listed ls)
  pub records : rs' ≡ records_after m image rs ts (asked listed ls)
  pub texts : ts' ≡ texts_after m image rs ts (asked listed ls)
  pub listing : ls' ≡ cond listed (listing_after m image rs ts ls) ls

-- buffers that are lent together
abbrev pub buffers : MutBor (List ℕ) → MutBor (List ℕ) → MutBor (List ℕ) → Buffers
buffers records texts listing = record { records = records; texts = texts; listing = listing }

-- Buffers after a call are the ones that were lent.
pub record SameLent (b b' : Buffers) : Type 0 where
  pub records : b'.records.ghost_name ≡ b.records.ghost_name
  pub texts : b'.texts.ghost_name ≡ b.texts.ghost_name
  pub listing : b'.listing.ghost_name ≡ b.listing.ghost_name

-- An answer is the one to what buffers held and what is wanted, and so is what they hold after it.
pub record Serves (w : Wanted) (image : List ℕ) (b b' : Buffers) (r : ListAnswer) : Type 0 where
  pub served : Served w.mode image b.records.now b.texts.now b.listing.now w.listed b'.records.now b'.texts.now b'.listing.now (reply_to w.listed r)
  pub lent : SameLent b b'

abbrev pub LentBuffers : Type 0
LentBuffers = Both (MutBor Buffers) (MutBor Buffers)

-- the same of what is lent and wanted
abbrev pub ServedIn : Lent → LentBuffers → Wanted → ListAnswer → Type 0
ServedIn image b w r = Serves w image.entry.now b.entry.now b.exit.now r

-- the same of a tree whose image is lent with its index
abbrev pub ServedBy : LentTree → LentBuffers → Wanted → ListAnswer → Type 0
ServedBy tree b w r = Serves w tree.entry.now.image b.entry.now b.exit.now r

-- ---- plans

-- 'at most 24 records for each element plus 4 for each byte of text'
abbrev pub most_records : List ℕ → ℕ
most_records image = 24 * count_n image + 4 * count_b image

-- An image that passed the tests 1 to 9, and n words have room for its index.
pub record Ready (image : List ℕ) (n : ℕ) : Type 0 where
  pub passed : refusal image ≡ none
  pub tabled : index_size image ≤ n

-- the items of a plan
abbrev pub planned_at : List ℕ → List ℕ → List ℕ → Plan → List Item
planned_at image index ops q = decoded (source_at image index) ops q.operations

-- A plan prints what an image that passed prints in a mode, and its runs are counted.
pub record Whole (m : Mode) (image index ops : List ℕ) (q : Plan) : Type 0 where
  pub passed : refusal image ≡ none
  pub within : q.operations ≤ length ops
  pub prints : source_file (tree_of image) (in_mode m) 0 ≡ ok (planned_at image index ops q) q.runs
  pub runs : q.runs ≡ runs_of (planned_at image index ops q)

-- The printing of an image that passed stops at element e.
pub record Halts (m : Mode) (image : List ℕ) (e : ℕ) : Type 0 where
  pub passed : refusal image ≡ none
  pub items : List Item
  pub stops : source_file (tree_of image) (in_mode m) 0 ≡ stop items e

-- What planning comes to: a plan, the element at which the Rust stops, or a full array.
pub record Foresees (m : Mode) (image index ops : List ℕ) (o : Result Plan Halt) : Type 0 where
  pub prints : (q : Plan) → o ≡ Ok q → Whole m image index ops q
  pub stops : (e : Element) → o ≡ Err (Stopped e) → Halts m image e.0
  pub fills : o ≡ Err Full → most_records image < length ops → ⊥

-- What an attempt comes to: an answer and the buffers that come back are those of the definition; or there was no room, and the buffers
-- come back as they were.
pub record Attempted (room : Type 0) (w : Wanted) (image : List ℕ) (b b' : Buffers) (a : std.Option ListAnswer) : Type 0 where
  pub answers : (r : ListAnswer) → a ≡ Some r → Serves w image b b' r
  pub fills : a ≡ None → (room → ⊥) × (b' ≡ b)

-- the same of what is lent, in an array of n operations: there is room where it has more than the image prints at most
abbrev pub AttemptedIn : ℕ → Lent → LentBuffers → Wanted → std.Option ListAnswer → Type 0
AttemptedIn n image b w a = Attempted (most_records image.entry.now < n) w image.entry.now b.entry.now b.exit.now a

-- the same in arrays of a size or larger ones: in the largest there is room
abbrev pub TriedIn : ℕ → Lent → LentBuffers → Wanted → std.Option ListAnswer → Type 0
TriedIn size image b w a = Attempted (226305 ≤ size) w image.entry.now b.entry.now b.exit.now a

-- the counts of items by their size and their runs, with two marks for each
abbrev pub counts_with : Size → ℕ → Count
counts_with p k = record { records = p.records; texts = p.texts; runs = k; marks = 2 * k }

-- buffers of so many words and bytes have room for all that an image may print
unfoldable pub ample : List ℕ → ℕ → ℕ → Bool
ample image words room = leb (record_size * most_records image) words && leb (39 * most_records image) room

-- 11, 12 and 13 by the counts and the bytes of the listing, for buffers of so many words and bytes
unfoldable pub shortage : Count → ℕ → ℕ → ℕ → ℕ → Bool → Result ⊤ Reason
shortage c n words room size listed =
    cond (ltb words (record_size * c.records)) (Err RecordsTooShort)
    (cond (ltb room c.texts) (Err TextsTooShort)
    (cond (listed && ltb size n) (Err ListingTooShort)
    (Ok tt)))
