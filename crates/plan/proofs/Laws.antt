-- Planners' contracts composed.
use Rattle.std.specs.Prelude.{◌≡◌, ℕ, ◌≤◌, Bool, true, false, ◌⊎◌, List, [], ◌++◌, length, Some, None, IsSome}
use Rattle.std.specs.declared.option.Option.{Option}
use mathlib.Core.Path.{refl, sym, ap, ◌∙◌}
use mathlib.Core.Logic.{inl, inr, ⊎_elim}
use mathlib.Core.List.{append_assoc, append-nil}
use native.Mathlib.Omega.{arith}
use mathlib.Core.Bool.{false≢true}
use Rattle.numbers.specs.Mode.{keeps}
use Rattle.items.specs.Item.{Item, Out, stop, ok, Context, Print, after, next, ◌⨟◌, none, when, keeping, with_number}
use Rattle.numbers.specs.declared.Element.{Element}
use Rattle.plan.specs.declared.Halt.{Halt}
use Rattle.plan.specs.declared.Halt.TheVariants.{Stopped, Full}
use Rattle.plan.specs.declared.Planner.{Planner}
use Rattle.tree.specs.Source.{Source}
use Rattle.plan.specs.Plans.{Planned, halted, full, planned, joined, planning, context_at, items_at, told, seen, items_in, Kept, Begins, Short, Reaches, Frame, Plans}
use Rattle.plan.specs.Load.{load}
use Rattle.plan.proofs.Loads.{load-append}

-- what there is of a source where only lengths are asked
pub blank : Source
blank = record { image = []; index = [] }

joined-after : (xs ys : List Item) (c : Context) (o : Out) → joined xs c (after ys o) ≡ joined (xs ++ ys) c o
unfolding joined
joined-after xs ys c (stop zs e) = rw (append_assoc xs ys zs)
joined-after xs ys c (ok zs k) = rw (append_assoc xs ys zs)

joined-next : (xs : List Item) (c : Context) (o : Out) (q : Print) → joined xs c (next o (q c)) ≡ planning q (joined xs c o)
unfolding joined planning
joined-next xs c (stop ys e) q = refl
joined-next xs c (ok ys k) q = joined-after xs ys c (q c k)

pub planning_seq : (p q : Print) (o : Planned) → planning (p ⨟ q) o ≡ planning q (planning p o)
unfolding planning ◌⨟◌
planning_seq p q (halted xs e) = refl
planning_seq p q (full xs) = refl
planning_seq p q (planned xs c k) = joined-next xs c (p c k) q

pub planning-none : (o : Planned) → planning none o ≡ o
unfolding planning none joined
planning-none (halted xs e) = refl
planning-none (full xs) = refl
planning-none (planned xs c k) = rw (append-nil xs)

-- ---- what is seen, by whether planning goes on

module _ (s : Source) (h : Planner) where
  pub seen-going : h.halt ≡ None → seen s h ≡ planned (items_at s h) (context_at h) h.runs
  unfolding seen told
  seen-going g = rw g

  pub seen-stopped : {e : Element} → h.halt ≡ Some (Stopped e) → seen s h ≡ halted (items_at s h) e.0
  unfolding seen told
  seen-stopped g = rw g

  pub seen-full : h.halt ≡ Some Full → seen s h ≡ full (items_at s h)
  unfolding seen told
  seen-full g = rw g

  -- planning that does not go on stays as it is
  pub seen-still : (q : Print) → IsSome h.halt → planning q (seen s h) ≡ seen s h
  unfolding seen told planning
  seen-still q n = go h.halt n
    where
      go : (o : Option Halt) → IsSome o → let x = told o (items_at s h) (context_at h) h.runs in planning q x ≡ x
      go None i = absurd (false≢true i)
      go (Some (Stopped e)) i = refl
      go (Some Full) i = refl

  -- planning that goes on is not full, and only that is seen as planned
  pub going-full : h.halt ≡ None → {xs : List Item} → seen s h ≡ full xs → ⊥
  going-full g {xs} e = let d : planned (items_at s h) (context_at h) h.runs ≡ full xs = sym (seen-going g) ∙ e in let z : ◌≡◌ {A = ℕ} 0 1 = cc in omega arith

  pub ended-going : IsSome h.halt → {xs : List Item} {c : Context} {k : ℕ} → seen s h ≡ planned xs c k → ⊥
  unfolding seen told
  ended-going n {xs} {c} {k} e = go h.halt n e
    where
      go : (o : Option Halt) → IsSome o → told o (items_at s h) (context_at h) h.runs ≡ planned xs c k → ⊥
      go None i d = false≢true i
      go (Some (Stopped x)) i d = let z : ◌≡◌ {A = ℕ} 0 1 = cc in omega arith
      go (Some Full) i d = let z : ◌≡◌ {A = ℕ} 0 1 = cc in omega arith

-- ---- what stays

pub frame-none : (o : Planner) → Frame o o
frame-none o = record { still = λ n. refl; before = λ i l. refl; past = λ i l. refl; grown = omega arith; mode = refl; same_ops = refl; lent = refl }

pub frame-both : {o a b : Planner} → Frame o a → Frame a b → Frame o b
frame-both {o} {a} {b} h k = record {
  still = λ n. let e = h.still n in k.still (rw e n) ∙ e;
  before = λ i l. k.before i (omega (arith, h.grown)) ∙ h.before i l;
  past = λ i l. k.past i l ∙ h.past i (omega (arith, k.grown));
  grown = omega (arith, h.grown, k.grown);
  mode = k.mode ∙ h.mode;
  same_ops = k.same_ops ∙ h.same_ops;
  lent = k.lent ∙ h.lent;
}

-- nothing planned
pub idle : {s : Source} {o : Planner} → Plans s none o o
idle {s} {o} = record { ran = record { got = inl (sym (planning-none (seen s o))) }; frame = frame-none o; tidy = λ k. k; within = λ l. l }

-- ---- what there is room for

begins-both : {xs ys zs : List Item} → Begins xs ys → Begins ys zs → Begins xs zs
begins-both {xs} {ys} {zs} h k = record { more = h.more ++ k.more; is = k.is ∙ rw h.is (append_assoc xs h.more k.more) }

begins-load : {xs ys : List Item} → Begins xs ys → load xs ≤ load ys
begins-load {xs} {ys} h = rw h.is (omega (arith, load-append xs h.more))

-- what is planned further begins with what was planned
pub planning-begins : (q : Print) (x : Planned) → Begins (items_in x) (items_in (planning q x))
unfolding planning joined
planning-begins q (halted xs e) = record { more = []; is = sym (append-nil xs) }
planning-begins q (full xs) = record { more = []; is = sym (append-nil xs) }
planning-begins q (planned xs c k) = go (q c k)
  where
    go : (o : Out) → Begins xs (items_in (joined xs c o))
    go (stop ys e) = record { more = ys; is = refl }
    go (ok ys n) = record { more = ys; is = refl }

planning-full : (q : Print) (x : Planned) → x ≡ full (items_in x) → planning q x ≡ x
unfolding planning
planning-full q x e = rw e

reaches : (cap : ℕ) (t u : Type 0) → (t → u) → (x y z : Planned) (p q : Print) → Reaches cap t y (planning p x) → Reaches cap u z (planning q y) → Reaches cap t z (planning (p ⨟ q) x)
reaches cap t u g x y z p q h k = record { got = rw (planning_seq p q x) (⊎_elim onward (λ d. inr (stuck d)) h.got) }
  where
    w : Planned
    w = planning q (planning p x)

    eased : Short cap u z (planning q y) → Short cap t z (planning q y)
    eased f = record { ends = f.ends; begins = f.begins; over = λ v. f.over (g v) }

    onward : y ≡ planning p x → (z ≡ w) ⊎ Short cap t z w
    onward d = ⊎_elim (λ e. inl (e ∙ ap (planning q) d)) (λ f. inr (rw d at (eased f))) k.got

    far : Short cap t y (planning p x) → Short cap t y w
    far d = let b = planning-begins q (planning p x) in record { ends = d.ends; begins = begins-both d.begins b; over = λ v. omega (arith, d.over v, begins-load b) }

    stuck : Short cap t y (planning p x) → Short cap t z w
    stuck d = let n = planning-full q y d.ends in
        ⊎_elim (λ e. let i : z ≡ y = e ∙ n in rw i (far d)) (λ f. record { ends = f.ends; begins = begins-both (rw n at f.begins) (far d).begins; over = (far d).over }) k.got

infixr 40 ◌▸◌
-- one planning after another
pub ◌▸◌ : {s : Source} {p q : Print} {o a b : Planner} → Plans s p o a → Plans s q a b → Plans s (p ⨟ q) o b
◌▸◌ {s} {p} {q} {o} {a} {b} h k = record {
  ran = reaches (length o.ops.now) (Kept s o) (Kept s a) h.tidy (seen s o) (seen s a) (seen s b) p q h.ran (rw h.frame.same_ops at k.ran);
  frame = frame-both h.frame k.frame;
  tidy = λ w. k.tidy (h.tidy w);
  within = λ l. k.within (h.within l);
}

-- a planning by another name, as where a test picks it
pub by : {s : Source} {p q : Print} {o a : Planner} → p ≡ q → Plans s q o a → Plans s p o a
by e h = rw e h

-- a planning that makes of what is seen what another makes of it
as_seen : {s : Source} (p q : Print) {o a : Planner} → planning p (seen s o) ≡ planning q (seen s o) → Plans s q o a → Plans s p o a
as_seen p q e h = record { ran = rw e h.ran; frame = h.frame; tidy = h.tidy; within = h.within }

-- the same of everything
pub as_planned : {s : Source} (p q : Print) {o a : Planner} → ((x : Planned) → planning p x ≡ planning q x) → Plans s q o a → Plans s p o a
as_planned {s} p q {o} e h = as_seen p q (e (seen s o)) h

number_is : (f : ℕ → Print) (s : Source) (h : Planner) → planning (with_number f) (seen s h) ≡ planning (f h.runs) (seen s h)
unfolding seen told planning with_number
number_is f s h = go h.halt
  where
    go : (o : Option Halt) → let x = told o (items_at s h) (context_at h) h.runs in planning (with_number f) x ≡ planning (f h.runs) x
    go None = refl
    go (Some (Stopped e)) = refl
    go (Some Full) = refl

-- a planner that has read the next list's number plans what knows it
pub numbers : {s : Source} (f : ℕ → Print) {o a : Planner} {k : ℕ} → k ≡ o.runs → Plans s (f k) o a → Plans s (with_number f) o a
numbers {s} f {o} {a} {k} e h = as_seen (with_number f) (f k) (number_is f s o ∙ rw (← e) refl) h

keeping_is : (p : Print) (s : Source) (h : Planner) → planning (keeping p) (seen s h) ≡ planning (when (keeps h.mode) p) (seen s h)
unfolding seen told planning keeping
keeping_is p s h = go h.halt
  where
    go : (o : Option Halt) → let x = told o (items_at s h) (context_at h) h.runs in planning (keeping p) x ≡ planning (when (keeps h.mode) p) x
    go None = refl
    go (Some (Stopped e)) = refl
    go (Some Full) = refl

-- a planner that has read the mode plans what is kept
module _ {s : Source} (p : Print) {o : Planner} {t : Bool} (i : t ≡ keeps o.mode) where
  pub kept : t ≡ true → {a : Planner} → Plans s p o a → Plans s (keeping p) o a
  unfolding when
  kept e h = as_seen (keeping p) p (keeping_is p s o ∙ rw (← i, e) refl) h

  pub unkept : t ≡ false → Plans s (keeping p) o o
  unfolding when
  unkept e = as_seen (keeping p) none (keeping_is p s o ∙ rw (← i, e) refl) idle
