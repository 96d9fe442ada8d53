-- What an item means for the counts of runs and marks, and for putting bodies back.
use Rattle.std.specs.Prelude.{List, ℕ}
use Rattle.text.specs.Basic.{sum}
use Rattle.items.specs.Item.{Item, signal, text, mark, run, run_end, again, if_test}

-- What an item means for putting back and for the counts.
pub data Role : Type 0 where
  stays marks : Role
  opens closes repeats : ℕ → Role

-- what an item means
abbrev pub role : Item → Role
role (text s) = stays
role (signal s) = stays
role (mark n) = marks
role (run k) = opens k
role (run_end k) = closes k
role (again k) = repeats k
role (if_test t) = stays

-- 1 for a run
abbrev pub is_run : Role → ℕ
is_run stays = 0
is_run marks = 0
is_run (opens k) = 1
is_run (closes k) = 0
is_run (repeats k) = 0

-- 1 for a mark
abbrev pub is_mark : Role → ℕ
is_mark stays = 0
is_mark marks = 1
is_mark (opens k) = 0
is_mark (closes k) = 0
is_mark (repeats k) = 0

-- 'the `run`s'
abbrev pub runs_of : List Item → ℕ
runs_of xs = sum (λ x. is_run (role x)) xs

-- 'the `mark`s'
abbrev pub marks_of : List Item → ℕ
marks_of xs = sum (λ x. is_mark (role x)) xs
