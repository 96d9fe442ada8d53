-- What a planner leaves, by how planning ends.
use Rattle.std.specs.Prelude.{◌≡◌, ℕ, [], Some, None, IsSome}
use Rattle.std.specs.declared.option.Option.{Option}
use mathlib.Core.Path.{refl, sym, ap, ◌∙◌}
use mathlib.Core.Logic.{⊎_elim}
use mathlib.Core.List.{append-nil}
use native.Mathlib.Omega.{arith}
use Rattle.items.specs.Item.{Print}
use Rattle.numbers.specs.declared.Element.{Element}
use Rattle.plan.specs.declared.Halt.{Halt}
use Rattle.plan.specs.declared.Halt.TheVariants.{Stopped, Full}
use Rattle.plan.specs.declared.Planner.{Planner}
use Rattle.tree.specs.Source.{Source}
use Rattle.plan.specs.Plans.{halted, full, planned, planning, context_at, items_at, seen, items_in, Begins, Plans}
use Rattle.plan.proofs.Laws.{seen-going, seen-stopped, seen-full, going-full}

-- the element at which planning stopped, if it did
abbrev pub stopped_at : Option Halt → Option Element
stopped_at None = None
stopped_at (Some (Stopped e)) = Some e
stopped_at (Some Full) = None

module _ {s : Source} {q : Print} {o a : Planner} (h : Plans s q o a) where
  -- whoever is handed a stop or a full array leaves every operation and all else as it was
  pub handed-stop : IsSome o.halt → a ≡ o
  handed-stop n = h.frame.still n

  -- planning that goes on leaves all of the printing's items
  pub going-leaves : a.halt ≡ None → planning q (seen s o) ≡ planned (items_at s a) (context_at a) a.runs
  going-leaves g = ⊎_elim (λ e. sym e ∙ seen-going s a g) (λ d. absurd (going-full s a g d.ends)) h.ran.got

  -- a stop leaves those up to it, and its element
  pub stop-leaves : {e : Element} → a.halt ≡ Some (Stopped e) → planning q (seen s o) ≡ halted (items_at s a) e.0
  stop-leaves {e} g = ⊎_elim (λ i. sym i ∙ seen-stopped s a g) (λ d. absurd (stop-full (sym (seen-stopped s a g) ∙ d.ends))) h.ran.got
    where
      stop-full : halted (items_at s a) e.0 ≡ full (items_in (seen s a)) → ⊥
      stop-full e = let z : ◌≡◌ {A = ℕ} 0 1 = cc in omega arith

  -- a full array leaves the first of them, and the element of a stop as it was
  pub full-leaves : a.halt ≡ Some Full → Begins (items_at s a) (items_in (planning q (seen s o))) × (stopped_at a.halt ≡ stopped_at o.halt)
  full-leaves m =
      let e = seen-full s a m in
      (⊎_elim (λ d. record { more = []; is = ap items_in (sym d ∙ e) ∙ sym (append-nil (items_at s a)) }) (λ d. rw e at d.begins) h.ran.got, rw m (unstopped o.halt refl))
    where
      unstopped : (x : Option Halt) → o.halt ≡ x → None ≡ stopped_at x
      unstopped None i = refl
      unstopped (Some Full) i = refl
      unstopped (Some (Stopped e)) i = let n : Some Full ≡ Some (Stopped e) = sym m ∙ ap (λ (p : Planner). p.halt) (handed-stop (rw i refl)) ∙ i in absurd (let z : ◌≡◌ {A = ℕ} 0 1 = cc in omega arith)
