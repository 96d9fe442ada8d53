-- A whole printing by a plan: all of it is planned, and stops are known from the planner.
use Rattle.std.specs.Prelude.{◌≡◌, ℕ, ◌-◌, ◌^◌, ◌<◌, ◌≤◌, min, List, [], length, Some, None}
use mathlib.Core.Path.{refl, sym, ap, ◌∙◌}
use mathlib.Core.Logic.{⊎_elim}
use native.Mathlib.Omega.{arith}
use Rattle.text.specs.Basic.{sum}
use Rattle.std.specs.Borrow.{MutBor}
use Rattle.numbers.specs.declared.Element.{Element}
use Rattle.numbers.specs.declared.mode.Mode.{Mode}
use Rattle.plan.specs.declared.Halt.TheVariants.{Stopped, Full}
use Rattle.plan.specs.declared.Planner.{Planner}
use Rattle.items.specs.Item.{Item, Out, stop, ok, Context, in_mode, Print}
use Rattle.items.proofs.Fits.{items_of}
use Rattle.plan.specs.Ops.{decoded}
use Rattle.tree.specs.Source.{Source}
use Rattle.plan.specs.Load.{load}
use Rattle.plan.proofs.Laws.{seen-full}
use Rattle.plan.proofs.Ends.{going-leaves, stop-leaves}
use Rattle.plan.specs.Plans.{Planned, halted, full, planned, joined, planning, fresh, items_at, told, seen, items_in, Kept, Plans}

-- which of the three it is, the items, and the number
abbrev tag : Planned → ℕ
tag (halted xs e) = 1
tag (full xs) = 2
tag (planned xs c k) = 0

abbrev number : Planned → ℕ
number (halted xs e) = e
number (full xs) = 0
number (planned xs c k) = k

joined-tag : (c : Context) (o : Out) (ys : List Item) → full ys ≡ joined [] c o → ⊥
unfolding joined
joined-tag c (stop xs e) ys h = let z : ◌≡◌ {A = ℕ} 2 1 = ap tag h in omega arith
joined-tag c (ok xs k) ys h = let z : ◌≡◌ {A = ℕ} 2 0 = ap tag h in omega arith

joined_items : (c : Context) (o : Out) → items_in (joined [] c o) ≡ items_of o
unfolding joined
joined_items c (stop xs e) = refl
joined_items c (ok xs k) = refl

joined-planned : (c : Context) (o : Out) (xs : List Item) {d : Context} (k : ℕ) → planned xs d k ≡ joined [] c o → o ≡ ok xs k
unfolding joined
joined-planned c (stop ys e) xs k h = let z : ◌≡◌ {A = ℕ} 0 1 = ap tag h in absurd (omega arith)
joined-planned c (ok ys n) xs k h = let i : xs ≡ ys = ap items_in h in let j : k ≡ n = ap number h in rw (i, j) refl

joined-halted : (c : Context) (o : Out) (xs : List Item) (e : ℕ) → halted xs e ≡ joined [] c o → o ≡ stop xs e
unfolding joined
joined-halted c (stop ys n) xs e h = let i : xs ≡ ys = ap items_in h in let j : e ≡ n = ap number h in rw (i, j) refl
joined-halted c (ok ys k) xs e h = let z : ◌≡◌ {A = ℕ} 1 0 = ap tag h in absurd (omega arith)

module _ (s : Source) (q : Print) (b : MutBor (List ℕ)) (m : Mode) (a : Planner) (h : Plans s q (fresh b m) a) where
  abbrev xs : List Item
  xs = items_at s a

  -- what the whole printing gives
  abbrev whole : Out
  whole = q (in_mode m) 0

  start : planning q (seen s (fresh b m)) ≡ joined [] (in_mode m) whole
  unfolding seen told planning decoded
  start = refl

  tidy : Kept s (fresh b m)
  unfolding decoded sum
  tidy = record { runs = refl; few = omega arith }

  -- a plan that stopped did so where the printing does
  pub stopped-there : {e : Element} → a.halt ≡ Some (Stopped e) → whole ≡ stop xs e.0
  stopped-there {e} g = joined-halted (in_mode m) whole xs e.0 (sym (stop-leaves h g) ∙ start)

  -- a plan that goes on holds all of the printing's items, and has counted its runs
  pub planned-all : a.halt ≡ None → whole ≡ ok xs a.runs
  planned-all g = joined-planned (in_mode m) whole xs a.runs (sym (going-leaves h g) ∙ start)

  -- its operations lie in the array
  pub in_array : a.operations ≤ length a.ops.now
  in_array = h.within (omega arith)

  -- its runs are counted
  pub kept : Kept s a
  kept = h.tidy tidy

  -- in an array with room
  module _ (room : load (items_of whole) < min (length b.now) (2 ^ 32 - 1)) where
    -- planning goes on or stopped
    pub never-full : a.halt ≡ Some Full → ⊥
    never-full e = ⊎_elim (λ i. joined-tag (in_mode m) whole xs (sym (seen-full s a e) ∙ i ∙ start)) (λ i. omega (arith, room, rw (start, joined_items (in_mode m) whole) at (i.over tidy))) h.ran.got
