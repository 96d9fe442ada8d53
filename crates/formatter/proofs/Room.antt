-- A plan of an image that passed the tests is whole where its array has room: 24 operations for each element and 4 for each byte of text suffice.
use mathlib.Core.Path.{◌≡◌, refl}
use mathlib.Core.List.{List}
use mathlib.Core.Option.{none}
use Prim.Native.Nat.{ℕ, ◌+◌, ◌*◌, ◌-◌, ◌^◌, ◌≤◌, ◌<◌, min}
use native.Mathlib.Omega.{arith}
use lib.ListN.{length}
use Rattle.text.specs.Basic.{All, ∅, ◌▹◌}
use Rattle.numbers.specs.declared.mode.Mode.{Mode}
use Rattle.items.specs.Item.{Item, Context, in_mode}
use Rattle.items.specs.Role.{is_run}
use Rattle.items.proofs.Fits.{items_of}
use Rattle.tree.specs.Tree.{count_n, count_b, tree_of}
use Rattle.tree.proofs.Passing.{Accepted, accepted}
use Rattle.plan.specs.Ops.{operand_limit}
use Rattle.tree.specs.Source.{source_at}
use Rattle.plan.specs.Load.{number_in, load}
use Rattle.std.specs.Borrow.{MutBor}
use Rattle.plan.specs.declared.Halt.{Halt}
use Rattle.plan.specs.declared.Halt.TheVariants.{Stopped, Full}
use Rattle.plan.specs.declared.Plan.{Plan}
use Rattle.plan.specs.declared.Planner.{Planner}
use Rattle.plan.specs.Plans.{fresh, items_at, made_by, made, Plans}
use Rattle.plan.proofs.Loads.{load-length}
use Rattle.plan.proofs.Whole.{stopped-there, planned-all, in_array, kept, never-full}
use Rattle.printer.specs.Print.{source_file}
use Rattle.numbers.specs.declared.Element.{Element}
use Rattle.std.specs.declared.option.Option.{Option}
use Rattle.std.specs.declared.option.Option.TheVariants.{Some, None}
use Rattle.std.specs.declared.result.Result.{Result}
use Rattle.tree.specs.Refusal.{refusal}
use Rattle.formatter.specs.Calls.{most_records, Whole, Halts, Foresees}
use Rattle.formatter.proofs.Agree.{Below, numbers-small}
use Rattle.formatter.proofs.Counted.{records-bound}
use Rattle.formatter.proofs.Fitted.{one-run, sum_le}

small : {r : ℕ} {xs : List Item} → All (Below r) xs → 2 * r + 1 < operand_limit → All (λ x. number_in x < operand_limit) xs
small ∅ h = ∅
small (◌▹◌ {x} b bs) h = ◌▹◌ {x = x} (omega (arith, b.named)) (small bs h)

-- every number fits its operand, so items weigh 1 each, and they are at most 24 for each element and 4 for each byte
room : {image : List ℕ} → Accepted image → (c : Context) → load (items_of (source_file (tree_of image) c 0)) ≤ 24 * count_n image + 4 * count_b image
room {image} a c =
    let xs = items_of (source_file (tree_of image) c 0) in
    let r = records-bound a c in
    let u = sum_le is_run one-run xs in
    omega (arith, r, load-length (small (numbers-small (tree_of image) c) (omega (arith, r, u, a.few-elements, a.few_bytes))))

-- whoever plans the printing of an image in an array has planned all of it, or stopped where it stops; or the array was too small
module _ {m : Mode} {image index ops : List ℕ} {b : MutBor (List ℕ)} {a : Planner} (p : refusal image ≡ none) (h : Plans (source_at image index) (source_file (tree_of image)) (fresh b m) a) (e : ops ≡ a.ops.now) where
  roomy : most_records image < length b.now → load (items_of (source_file (tree_of image) (in_mode m) 0)) < min (length b.now) (2 ^ 32 - 1)
  roomy l = let c = accepted image p in omega (arith, room c (in_mode m), l, c.few-elements, c.few_bytes)

  stops : {e : Element} → a.halt ≡ Some (Stopped e) → Halts m image e.0
  stops g = record { passed = p; items = items_at (source_at image index) a; stops = stopped-there _ _ b m a h g }

  prints : a.halt ≡ None → Whole m image index a.ops.now (record { operations = a.operations; runs = a.runs })
  prints g = record { passed = p; within = in_array _ _ b m a h; prints = planned-all _ _ b m a h g; runs = (kept _ _ b m a h).runs }

  pub foresees : {x : Result Plan Halt} → x ≡ made a → Foresees m image index ops x
  foresees i = rw (e, i) (go a.halt refl)
    where
      go : (t : Option Halt) → a.halt ≡ t → Foresees m image index a.ops.now (made_by t (record { operations = a.operations; runs = a.runs }))
      go None g = record { prints = λ q i. let j : q ≡ record { operations = a.operations; runs = a.runs } = cc in rw j (prints g); stops = λ x i. absurd (let z : ◌≡◌ {A = ℕ} 0 1 = cc in omega arith); fills = λ i. absurd (let z : ◌≡◌ {A = ℕ} 0 1 = cc in omega arith) }
      go (Some (Stopped x)) g = record { prints = λ q i. absurd (let z : ◌≡◌ {A = ℕ} 0 1 = cc in omega arith); stops = λ y i. let j : y ≡ x = cc in rw j (stops g); fills = λ i. absurd (let z : ◌≡◌ {A = ℕ} 0 1 = cc in omega arith) }
      go (Some Full) g = record { prints = λ q i. absurd (let z : ◌≡◌ {A = ℕ} 0 1 = cc in omega arith); stops = λ x i. absurd (let z : ◌≡◌ {A = ℕ} 0 1 = cc in omega arith); fills = λ i l. never-full _ _ b m a h (roomy (rw h.frame.same_ops at l)) g }
