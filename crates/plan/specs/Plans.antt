-- How far planning has come, and the contract of every call that plans.
use Rattle.std.specs.Prelude.{◌≡◌, ℕ, suc, ◌-◌, ◌^◌, ◌<◌, ◌≤◌, min, ◌⊎◌, List, ◌++◌, length, slice_index, Some, None, IsSome, Ok, Err}
use Rattle.std.specs.declared.option.Option.{Option}
use Rattle.std.specs.declared.result.Result.{Result}
use Rattle.std.specs.Borrow.{MutBor}
use denote.Triple.Both.{Both}
use Rattle.tree.specs.Source.{LentTree}
use Rattle.plan.specs.declared.Halt.{Halt}
use Rattle.plan.specs.declared.Halt.TheVariants.{Stopped, Full}
use Rattle.plan.specs.declared.Plan.{Plan}
use Rattle.plan.specs.declared.Planner.{Planner}
use Rattle.numbers.specs.declared.mode.Mode.{Mode}
use Rattle.items.specs.Item.{Item, Out, stop, ok, Context, Print}
use Rattle.items.specs.Role.{runs_of}
use Rattle.plan.specs.Ops.{decoded}
use Rattle.tree.specs.Source.{Source}
use Rattle.plan.specs.Load.{load}

-- How far planning has come: the items before the element at which it stopped, those before there was no room, or the items, the context and the next list's number.
pub data Planned : Type 0 where
  halted : List Item → ℕ → Planned
  full : List Item → Planned
  planned : List Item → Context → ℕ → Planned

-- what a printing's items make of the items before them
unfoldable pub joined : List Item → Context → Out → Planned
joined xs c (stop ys e) = halted (xs ++ ys) e
joined xs c (ok ys k) = planned (xs ++ ys) c k

-- what a printing makes of what is planned
unfoldable pub planning : Print → Planned → Planned
planning q (halted xs e) = halted xs e
planning q (full xs) = full xs
planning q (planned xs c k) = joined xs c (q c k)

-- a planner before its first operation, in a mode
abbrev pub fresh : MutBor (List ℕ) → Mode → Planner
fresh ops m = record { ops = ops; halt = None; operations = 0; runs = 0; mode = m }

-- the items of the operations so far
abbrev pub items_at : Source → Planner → List Item
items_at s h = decoded s h.ops.now h.operations

-- in the mode of a planner
abbrev pub context_at : Planner → Context
context_at h = record { mode = h.mode }

-- what a planner says with these items, by whether planning goes on, stopped or found no room
unfoldable pub told : Option Halt → List Item → Context → ℕ → Planned
told None xs c k = planned xs c k
told (Some (Stopped e)) xs c k = halted xs e.0
told (Some Full) xs c k = full xs

-- what is seen of a planner
unfoldable pub seen : Source → Planner → Planned
seen s h = told h.halt (items_at s h) (context_at h) h.runs

-- the plan that is made, or why there is none
abbrev pub made_by : Option Halt → Plan → Result Plan Halt
made_by None p = Ok p
made_by (Some e) p = Err e

abbrev pub made : Planner → Result Plan Halt
made h = made_by h.halt (record { operations = h.operations; runs = h.runs })

-- the items of it
abbrev pub items_in : Planned → List Item
items_in (halted xs e) = xs
items_in (full xs) = xs
items_in (planned xs c k) = xs

-- a planner that does not go on, for the reason that it had, or else for this one
abbrev pub or_halt : Option Halt → Halt → Option Halt
or_halt None x = Some x
or_halt (Some y) x = Some y

-- a planner that is to halt for a reason
abbrev pub halting : Halt → Planner → Planner
halting x h = record { ops = h.ops; halt = or_halt h.halt x; operations = h.operations; runs = h.runs; mode = h.mode }

-- What planners keep, at every end: the next list's number is the number of runs, and there are no more operations than items.
pub record Kept (s : Source) (h : Planner) : Type 0 where
  pub runs : h.runs ≡ runs_of (items_at s h)
  pub few : h.operations ≤ length (items_at s h)

-- The first of ys are xs.
pub record Begins (xs ys : List Item) : Type 0 where
  pub more : List Item
  pub is : ys ≡ xs ++ more

-- There was no room for all of y: x has the first of its items; and if what planners keep held before, y weighs no less than an
-- array of cap operations holds.
pub record Short (cap : ℕ) (before : Type 0) (x y : Planned) : Type 0 where
  pub ends : x ≡ full (items_in x)
  pub begins : Begins (items_in x) (items_in y)
  pub over : before → min cap (2 ^ 32 - 1) ≤ load (items_in y)

-- x is y, or there was no room.
pub record Reaches (cap : ℕ) (before : Type 0) (x y : Planned) : Type 0 where
  pub got : (x ≡ y) ⊎ Short cap before x y

-- What planning leaves as it was, at every end. Of all else, `seen` says what operations are added, whether planning goes on and
-- where it stopped, and `Kept` the next list's number.
pub record Frame (o a : Planner) : Type 0 where
  -- whoever is handed a stop or a full array changes nothing
  pub still : IsSome o.halt → a ≡ o
  -- the operations that were there, and what lies past those that are there now
  pub before : (i : ℕ) → i < o.operations → slice_index a.ops.now i ≡ slice_index o.ops.now i
  pub past : (i : ℕ) → a.operations ≤ i → slice_index a.ops.now i ≡ slice_index o.ops.now i
  pub grown : o.operations ≤ a.operations
  -- the mode, and the array that is lent
  pub mode : a.mode ≡ o.mode
  pub same_ops : length a.ops.now ≡ length o.ops.now
  pub lent : a.ops.ghost_name ≡ o.ops.ghost_name

-- What the one function that adds promises: planning q takes o to a with at most one operation more, and with none where planning
-- does not go on.
pub record Adds (s : Source) (q : Print) (o a : Planner) : Type 0 where
  pub ran : Reaches (length o.ops.now) (Kept s o) (seen s a) (planning q (seen s o))
  pub frame : Frame o a
  pub one : a.operations ≤ suc o.operations
  pub within : o.operations ≤ length o.ops.now → a.operations ≤ length a.ops.now
  pub none : IsSome a.halt → (items_at s a ≡ items_at s o) × (a.operations ≡ o.operations) × (a.runs ≡ o.runs)

-- Every planner's contract: planning q takes o to a, what planners keep holds again, and all else is as it was.
pub record Plans (s : Source) (q : Print) (o a : Planner) : Type 0 where
  pub ran : Reaches (length o.ops.now) (Kept s o) (seen s a) (planning q (seen s o))
  pub frame : Frame o a
  pub tidy : Kept s o → Kept s a
  -- the operations lie in the array, where they did
  pub within : o.operations ≤ length o.ops.now → a.operations ≤ length a.ops.now

-- ---- of what is lent

-- a planner that is lent, at the entry and at the exit of a call
abbrev pub LentPlanner : Type 0
LentPlanner = Both (MutBor Planner) (MutBor Planner)

-- the contract of a call that is lent the tree: it plans q
abbrev pub PlansIn : LentPlanner → LentTree → Print → Type 0
PlansIn planner tree q = Plans tree.entry.now q planner.entry.now planner.exit.now

-- the contract of a call that is lent no tree: it plans q for every one
abbrev pub PlansAny : LentPlanner → Print → Type 0
PlansAny planner q = (s : Source) → Plans s q planner.entry.now planner.exit.now

-- the same of the one function that adds
abbrev pub AddsAny : LentPlanner → (Source → Print) → Type 0
AddsAny planner q = (s : Source) → Adds s (q s) planner.entry.now planner.exit.now
