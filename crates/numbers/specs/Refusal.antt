-- Document 01, 'When a tree is turned away': the number of each reason.
use Rattle.std.specs.Prelude.{ℕ}
use Rattle.numbers.specs.declared.refusal.Reason.{Reason}
use Rattle.numbers.specs.declared.refusal.Reason.TheVariants.{WrongLength, OutOfLimits, UnknownKind, Misplaced, WrongSize, NotUtf8, StringBlock, Misformed, Nameless, Stopped, RecordsTooShort, TextsTooShort, ListingTooShort}

-- the thirteen in order
abbrev pub number_of : Reason → ℕ
number_of WrongLength = 1
number_of OutOfLimits = 2
number_of UnknownKind = 3
number_of Misplaced = 4
number_of WrongSize = 5
number_of NotUtf8 = 6
number_of StringBlock = 7
number_of Misformed = 8
number_of Nameless = 9
number_of Stopped = 10
number_of RecordsTooShort = 11
number_of TextsTooShort = 12
number_of ListingTooShort = 13
