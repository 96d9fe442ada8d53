-- What the program prints: 'A program reads a tree image from standard input, with room for 5,000 records, 32,000 text bytes and 65,536 listing bytes, and prints the
-- listing, or one line with `refused`, number and element.'
use Rattle.std.specs.Prelude.{◌≡◌, List, ℕ, ◌*◌, ◌≤◌, length, replicate, Some, None}
use Rattle.std.specs.declared.option.Option.{Option}
use Rattle.std.proofs.Math.Option.{some}
use Rattle.numbers.specs.declared.mode.Mode.{Mode}
use Rattle.numbers.specs.declared.refusal.Reason.{Reason}
use Rattle.numbers.specs.Refusal.{number_of}
use Rattle.items.specs.Records.{overlaid, record_size}
use Rattle.listing.specs.Listing.{listing, refused_line}
use Rattle.formatter.specs.declared.program.Response.{Response}
use Rattle.formatter.specs.Answer.{Verdict, turned_away, printed, ruling}

-- a buffer of n cells
unfoldable pub blank : ℕ → List ℕ
blank n = replicate n 0

-- the thirteen tests in a mode, with the program's room
unfoldable pub judged : Mode → List ℕ → Verdict
judged m image = ruling m image (blank (record_size * 5000)) (blank 32000) (some (blank 65536))

-- 'the listing, or one line with `refused`, number and element'
unfoldable pub printed_of : Verdict → List ℕ
printed_of (turned_away n e) = refused_line n e
printed_of (printed xs) = listing xs

-- the bytes that are printed of an image in a mode
unfoldable pub response : Mode → List ℕ → List ℕ
response m image = printed_of (judged m image)

-- the number of a refusal; 0 where there is none
unfoldable pub number_in : Verdict → ℕ
number_in (turned_away n e) = n
number_in (printed xs) = 0

-- that of a reason that is told or not
abbrev pub number_told : Option Reason → ℕ
number_told None = 0
number_told (Some r) = number_of r

-- The buffer begins with what is printed, and goes on as it was.
pub record Responds (m : Mode) (image entry exit : List ℕ) (r : Response) : Type 0 where
  pub number : number_told r.refused ≡ number_in (judged m image)
  pub counted : r.bytes ≡ length (response m image)
  pub written : exit ≡ overlaid (response m image) entry
  pub inside : r.bytes ≤ length exit
