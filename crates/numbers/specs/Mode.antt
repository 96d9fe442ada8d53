-- Document 02, Ask 1: 'Beside the plain mode add a keeping mode, chosen by the caller'.
use Rattle.std.specs.Prelude.{◌≡◌, Bool, true, false, cond, ℕ, eqb, Ok, Err}
use Rattle.std.specs.declared.result.Result.{Result}
use Rattle.std.proofs.Math.Option.{Option, none, some}
use Rattle.numbers.specs.declared.mode.Mode.{Mode}
use Rattle.numbers.specs.declared.mode.Mode.TheVariants.{Plain, Keeping}
use Rattle.numbers.specs.declared.mode.UnknownMode.{UnknownMode}

-- it is the keeping mode
abbrev pub keeps : Mode → Bool
keeps Plain = false
keeps Keeping = true

-- the number of a mode
abbrev pub mode_number : Mode → ℕ
mode_number Plain = 0
mode_number Keeping = 1

-- the mode with a number, where one has it
abbrev pub mode_of : ℕ → Option Mode
mode_of n = cond (eqb n 0) (some Plain) (cond (eqb n 1) (some Keeping) none)

-- the mode that was found, if any
abbrev pub found : Result Mode UnknownMode → Option Mode
found (Ok m) = some m
found (Err e) = none

-- what is found by a number is the mode with it, or that none has it
abbrev pub Chooses : ℕ → Result Mode UnknownMode → Type 0
Chooses n r = found r ≡ mode_of n
