-- Equations of printings in a row, and what a loop has printed so far.
use Rattle.std.specs.Prelude.{◌≡◌, ℕ, Bool, true, false, List, [], ◌++◌}
use mathlib.Core.Path.{refl}
use mathlib.Core.List.{append-nil, append_assoc}
use Rattle.items.specs.Item.{Item, Out, stop, ok, Context, Print, after, next, ◌⨟◌, none, when, keeping}
use Rattle.numbers.specs.Mode.{keeps}
use Rattle.tree.specs.Source.{Source}
use Rattle.plan.specs.declared.Planner.{Planner}
use Rattle.plan.specs.Plans.{Plans}
use Rattle.plan.proofs.Laws.{idle, ◌▸◌, by}

after_both : (xs ys : List Item) (o : Out) → after (xs ++ ys) o ≡ after xs (after ys o)
after_both xs ys (stop zs e) = rw (append_assoc xs ys zs)
after_both xs ys (ok zs k) = rw (append_assoc xs ys zs)

next-after : (xs : List Item) (o : Out) (r : ℕ → Out) → next (after xs o) r ≡ after xs (next o r)
next-after xs (stop ys e) r = refl
next-after xs (ok ys k) r = after_both xs ys (r k)

next_both : (c : Context) (o : Out) (q r : Print) → next (next o (q c)) (r c) ≡ next o ((q ⨟ r) c)
unfolding ◌⨟◌
next_both c (stop xs e) q r = refl
next_both c (ok xs k) q r = next-after xs (q c k) (r c)

-- how printings in a row are grouped does not matter
pub seq_assoc : (p q r : Print) → (p ⨟ q) ⨟ r ≡ p ⨟ (q ⨟ r)
unfolding ◌⨟◌
seq_assoc p q r = λ i c k. next_both c (p c k) q r i

after_none : (o : Out) → after [] o ≡ o
after_none (stop xs e) = refl
after_none (ok xs k) = refl

-- nothing in front
pub none_first : (p : Print) → none ⨟ p ≡ p
unfolding ◌⨟◌ none
none_first p = λ i c k. after_none (p c k) i

next-none : (c : Context) (o : Out) → next o (none c) ≡ o
unfolding none
next-none c (stop xs e) = refl
next-none c (ok xs k) = rw (append-nil xs)

-- nothing behind
pub none_last : (p : Print) → p ⨟ none ≡ p
unfolding ◌⨟◌
none_last p = λ i c k. next-none c (p c k) i

-- nothing that is kept
pub keeping_none : keeping none ≡ none
unfolding keeping when
keeping_none = λ i c. go (keeps c.mode) i c
  where
    go : (b : Bool) → when b none ≡ none
    go true = refl
    go false = refl

-- A loop that prints: whoever prints the rest from here has printed the whole.
pub record Goes (src : Source) (whole rest : Print) (o a : Planner) : Type 0 where
  pub rest_of : {b : Planner} → Plans src rest a b → Plans src whole o b

pub goes_none : {src : Source} (p : Print) (o : Planner) → Goes src p p o o
goes_none p o = record { rest_of = λ h. h }

pub goes-more : {src : Source} {p r x r' : Print} {o a b : Planner} → Goes src p r o a → r ≡ x ⨟ r' → Plans src x a b → Goes src p r' o b
goes-more g e h = record { rest_of = λ k. g.rest_of (by e (h ▸ k)) }

pub goes-all : {src : Source} {p r : Print} {o a : Planner} → Goes src p r o a → r ≡ none → Plans src p o a
goes-all g e = g.rest_of (by e idle)
