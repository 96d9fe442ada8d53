-- What the exported functions from images to records and listings answer.
use Rattle.std.specs.Prelude.{◌≡◌, List, [], ◌∷◌, ℕ}
use Rattle.std.proofs.Math.Option.{Option, none, some}
use Rattle.numbers.specs.declared.mode.Mode.{Mode}
use Rattle.formatter.specs.Answer.{Answer, refused, done}
use Rattle.exports.specs.declared.print.Report.{Report}

-- what a call in a mode gives, or x where its number is that of no mode
unfoldable pub by_mode : {A : Type 0} → Option Mode → A → (Mode → A) → A
by_mode none x f = x
by_mode (some m) x f = f m

-- the answer to a number that no mode has; no refusal has this one
abbrev pub unknown_mode : ℕ
unknown_mode = 254

-- document 01's number of the refusal, 0 where there is none
unfoldable pub number : Answer → ℕ
number (refused n e) = n
number (done c n) = 0

-- the four counts and the element, 0 where the answer has none
unfoldable pub values : Answer → List ℕ
values (refused n e) = 0 ∷ 0 ∷ 0 ∷ 0 ∷ e ∷ []
values (done c n) = c.records ∷ c.texts ∷ c.runs ∷ c.marks ∷ 0 ∷ []

-- 'for a listing its length', 0 where there is none
abbrev pub or_zero : Option ℕ → ℕ
or_zero none = 0
or_zero (some n) = n

-- the four counts, the length of the listing and the element, 0 where the answer has none
unfoldable pub values_listed : Answer → List ℕ
values_listed (refused n e) = 0 ∷ 0 ∷ 0 ∷ 0 ∷ 0 ∷ e ∷ []
values_listed (done c n) = c.records ∷ c.texts ∷ c.runs ∷ c.marks ∷ or_zero n ∷ 0 ∷ []

-- A report has the number and the values of an answer.
pub record Reports (r : Report) (a : Answer) : Type 0 where
  pub answered : r.number ≡ number a
  pub valued : (r.counts.records ∷ r.counts.texts ∷ r.counts.runs ∷ r.counts.marks ∷ r.element ∷ []) ≡ values a
  pub listed : (r.counts.records ∷ r.counts.texts ∷ r.counts.runs ∷ r.counts.marks ∷ r.bytes ∷ r.element ∷ []) ≡ values_listed a
