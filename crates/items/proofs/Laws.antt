-- Items printed one after another, and printers' contracts composed.
use mathlib.Core.Path.{◌≡◌, refl, sym, ◌∙◌}
use mathlib.Core.Bool.{Bool, true, false, cond}
use mathlib.Core.List.{List, [], ◌∷◌, ◌++◌}
use Prim.Native.Nat.{ℕ}
use native.Mathlib.Omega.{arith}
use Rattle.std.specs.Prelude.{Option, Some, None}
use Rattle.items.specs.Item.{Item}
use Rattle.items.specs.declared.Output.{Output}
use Rattle.items.specs.declared.Size.{Size}
use Rattle.items.specs.Machine.{State, Outcome, full, reached, printable, emitted, emit_all, printing, seen, Frame, Says}

all_append : (xs ys : List Item) (σ : State) → emit_all (xs ++ ys) σ ≡ printing ys (emit_all xs σ)
unfolding emit_all printing
all_append [] ys σ = refl
all_append (x ∷ xs) ys σ = step (printable σ.size x) _ _ (all_append xs ys (emitted x σ))
  where
    step : (b : Bool) (rs ts : List ℕ) → emit_all (xs ++ ys) (emitted x σ) ≡ printing ys (emit_all xs (emitted x σ))
        → cond b (emit_all (xs ++ ys) (emitted x σ)) (full rs ts) ≡ printing ys (cond b (emit_all xs (emitted x σ)) (full rs ts))
    step true rs ts h = h
    step false rs ts h = refl

-- some items and then others make of an outcome what the others make of what the first make of it
printing-append : (xs ys : List Item) (o : Outcome) → printing (xs ++ ys) o ≡ printing ys (printing xs o)
unfolding printing
printing-append xs ys (full rs ts) = refl
printing-append xs ys (reached σ) = all_append xs ys σ

-- printing nothing leaves all as it is
printing-none : (o : Outcome) → printing [] o ≡ o
unfolding printing emit_all
printing-none (full rs ts) = refl
printing-none (reached σ) = refl

-- ---- printers' contracts

pub frame-none : {o : Output} → Frame o o
frame-none = record { same_records = refl; same_texts = refl; records_lent = refl; texts_lent = refl }

pub frame-both : {o a b : Output} → Frame o a → Frame a b → Frame o b
frame-both h k = record {
  same_records = k.same_records ∙ h.same_records;
  same_texts = k.same_texts ∙ h.same_texts;
  records_lent = k.records_lent ∙ h.records_lent;
  texts_lent = k.texts_lent ∙ h.texts_lent;
}

-- no items
pub unsaid : {o : Output} → Says [] o o
unsaid = record { ran = sym (printing-none _); frame = frame-none }

infixr 40 ◌▸▸◌
-- some items, and then others
pub ◌▸▸◌ : {xs ys : List Item} {o a b : Output} → Says xs o a → Says ys a b → Says (xs ++ ys) o b
◌▸▸◌ {xs} {ys} h k = record { ran = rw (printing-append xs ys, ← h.ran) k.ran; frame = frame-both h.frame k.frame }

-- printing that is full stays where it is, whatever is printed
pub passed : (xs : List Item) {o : Output} → o.size ≡ None → Says xs o o
unfolding printing seen
passed xs h = record { ran = rw h refl; frame = frame-none }

-- a printer whose output is full leaves it so, and changes no cell
pub full-kept : {xs : List Item} {o a : Output} → o.size ≡ None → Says xs o a → (a.size ≡ None) × ((a.records.now ≡ o.records.now) × (a.texts.now ≡ o.texts.now))
unfolding printing seen
full-kept {o} {a} e h = go a.size (rw e at h.ran)
  where
    go : (r : Option Size) → seen a.records.now a.texts.now r ≡ full o.records.now o.texts.now → (r ≡ None) × ((a.records.now ≡ o.records.now) × (a.texts.now ≡ o.texts.now))
    go (Some p) k = absurd (let z : ◌≡◌ {A = ℕ} 0 1 = cc in omega arith)
    go None k = (refl, (cc, cc))

-- A loop that prints: whoever prints the rest ys from here has printed the whole xs.
pub record Going (xs ys : List Item) (o a : Output) : Type 0 where
  pub rest : {b : Output} → Says ys a b → Says xs o b

pub going_more : {xs ys zs us : List Item} {o a b : Output} → Going xs ys o a → ys ≡ us ++ zs → Says us a b → Going xs zs o b
going_more g e h = record { rest = λ k. g.rest (rw e (h ▸▸ k)) }

pub going-all : {xs ys : List Item} {o a : Output} → Going xs ys o a → ys ≡ [] → Says xs o a
going-all g e = g.rest (rw e unsaid)
