-- What the code answers, in document 01's numbers.
use Rattle.std.proofs.Math.Option as math
use Rattle.std.proofs.Math.Option.{some, none}
use Rattle.std.specs.Prelude.{List, ℕ, Option, Some, None, Result, Ok, Err}
use Rattle.numbers.specs.Refusal.{number_of}
use Rattle.numbers.specs.declared.Element.{Element}
use Rattle.numbers.specs.declared.refusal.Refusal as code
use Rattle.tree.specs.Tree.{count_n, count_b}
use Rattle.tree.specs.Refusal.{Refusal, refusal}
use Rattle.tree.specs.declared.Accepted.{Accepted}

-- the number of the element that was found
abbrev pub found : Option Element → math.Option ℕ
found (Some e) = some e.0
found None = none

-- What the tests 1 to 9 say of an image: a refusal, or that it passed them, with N and B.
pub data Answer : Type 0 where
  refused : Refusal → Answer
  passed : ℕ → ℕ → Answer

-- a refusal, or N and B where there is none
abbrev pub answered : ℕ → ℕ → math.Option Refusal → Answer
answered n b (some r) = refused r
answered n b none = passed n b

-- what the tests 1 to 9 say of an image
unfoldable pub answer : List ℕ → Answer
answer image = answered (count_n image) (count_b image) (refusal image)

-- a refusal by document 01's number and element
abbrev pub numbered : code.Refusal → Refusal
numbered r = record { number = number_of r.reason; element = r.element.0 }

-- what one test says
abbrev pub refused_by : Result Unit code.Refusal → math.Option Refusal
refused_by (Ok x) = none
refused_by (Err r) = some (numbered r)

-- document 01's number and element for each case
abbrev pub said : Result Accepted code.Refusal → Answer
said (Err r) = refused (numbered r)
said (Ok a) = passed a.elements a.bytes
