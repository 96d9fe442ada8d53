-- What the siblings of a region give, one after the other: its parts.
use mathlib.Core.Path.{◌≡◌, refl, ap, ◌∙◌}
use mathlib.Core.Bool.{Bool, true, false, cond}
use mathlib.Core.Option as math
use mathlib.Core.Option.{none, some}
use mathlib.Core.List.{List, [], ◌∷◌, map}
use Prim.Native.Nat.{ℕ, zero, suc, ◌-◌, ◌<◌, ◌≤◌}
use native.Mathlib.Omega.{arith}
use lib.ListN.{length}
use Rattle.std.specs.Prelude.{Option, Some, None}
use Rattle.std.specs.Option.{option_map}
use Rattle.std.specs.List.{find, filter, slice_get, last_or}
use Rattle.std.specs.Iterator.{Drains}
use Rattle.std.proofs.lemmas.Iterator.{YieldsList, items_from_drains}
use Rattle.std.proofs.lemmas.Iterator.Splits.{YieldsList-from_shown_while}
use Rattle.numbers.specs.declared.Element.{Element}
use Rattle.tree.specs.declared.iter.Siblings.{Siblings}
use Rattle.tree.specs.Tree.{Part}
use Rattle.tree.specs.Answer.{found}
use Rattle.text.specs.Basic.{or_else}
use Rattle.tree.specs.Class.{Kinds, one_of, is_plus, nth_of, last_of, plus_of, number_of}
use Rattle.tree.specs.Index.{end_at, part_at, parts_from, Forward}
use Rattle.tree.specs.Siblings.{Left, GivesSibling}
use Rattle.tree.proofs.Siblings.{region-part, region-next, parts-over}

-- ---- one step

pub forward-next : {index : List ℕ} {a b k : ℕ} → Forward index a b → a < b → k ≡ end_at index a → Forward index k b
forward-next {a = a} f h e = record { past = λ i l m. f.past i (omega (arith, f.past a (omega arith) h)) m }

pub forward-less : {index : List ℕ} {a b k : ℕ} → Forward index a b → a < b → k ≡ end_at index a → b - k < b - a
forward-less {a = a} f h e = omega (arith, f.past a (omega arith) h)

-- ---- all that they give

module _ {image index : List ℕ} {b j : ℕ} {s : Siblings} (l : Left image index b s) (e : s.next ≡ j) (t : Siblings) where
  pub left-over : GivesSibling s None t → b ≤ j
  left-over h = omega (arith, e, l.ended, h.2.0)

  pub left-step : (x : Element) → GivesSibling s (Some x) t → (j < b) × (x.0 ≡ j) × (t.next ≡ end_at index j) × Left image index b t
  left-step x h =
      let m : j < b = omega (arith, e, l.ended, h.2.0) in
      let k : t.next ≡ end_at index j = rw (← e, ← l.indexed) h.2.2 in
      (m, h.2.1 ∙ e, k, record { region = rw k (region-next (rw e at l.region) m); indexed = h.0 ∙ l.indexed; ended = h.1 ∙ l.ended })

module _ {image index : List ℕ} {b : ℕ} where
  nothing : (s t : Siblings) → Left image index b s → GivesSibling s None t → length (parts_from image index s.next b) ≡ 0
  nothing s t l h = ap length (parts-over index image s.next b (left-over l refl t h))

  first : (s : Siblings) (x : Element) (t : Siblings) → Left image index b s → GivesSibling s (Some x) t → Left image index b t × (parts_from image index s.next b ≡ part_at image index x.0 ∷ parts_from image index t.next b)
  first s x t l h = let (m, f, k, n) = left-step l refl t x h in (n, rw (f, k) (region-part l.region m))

pub siblings-yield : {image index : List ℕ} {a b : ℕ} {s : Siblings} → Left image index b s → s.next ≡ a → YieldsList GivesSibling (λ x. part_at image index x.0) s (parts_from image index a b)
siblings-yield {image} {index} {a} {b} {s} l e = rw (← e) (YieldsList-from_shown_while GivesSibling (λ x. part_at image index x.0) (λ u. parts_from image index u.next b) (Left image index b) nothing first s l)

-- ---- what is found

-- std's option as mathlib's
abbrev pub same : Option Part → math.Option Part
same None = none
same (Some x) = some x

pub found-part : (image index : List ℕ) (r : Option Element) {o : Option Part} {p : math.Option Part} → option_map (λ x. part_at image index x.0) r ≡ o → same o ≡ p → found r ≡ number_of p
found-part image index r e f = rw (← f, ← e) (go r)
  where
    go : (r : Option Element) → found r ≡ number_of (same (option_map (λ x. part_at image index x.0) r))
    go None = refl
    go (Some x) = refl

pub find-plus : (xs : List Part) → same (find is_plus xs) ≡ plus_of xs
unfolding plus_of
find-plus [] = refl
find-plus (x ∷ xs) = go (is_plus x) (find-plus xs)
  where
    go : (t : Bool) → same (find is_plus xs) ≡ plus_of xs → same (cond t (Some x) (find is_plus xs)) ≡ cond t (some x) (plus_of xs)
    go true h = refl
    go false h = h

module _ (w : Kinds) where
  -- a part is of these kinds
  abbrev pub kindly : Part → Bool
  kindly x = one_of w x.kind

  pub filter-nth : (n : ℕ) (xs : List Part) → same (slice_get (filter kindly xs) n) ≡ nth_of w n xs
  unfolding nth_of
  filter-nth n [] = refl
  filter-nth zero (x ∷ xs) = go (kindly x) (filter-nth zero xs)
    where
      go : (t : Bool) → same (slice_get (filter kindly xs) 0) ≡ nth_of w 0 xs → same (slice_get (cond t (x ∷ filter kindly xs) (filter kindly xs)) 0) ≡ cond t (some x) (nth_of w 0 xs)
      go true h = refl
      go false h = h
  filter-nth (suc n) (x ∷ xs) = go (kindly x) (filter-nth n xs) (filter-nth (suc n) xs)
    where
      go : (t : Bool) → same (slice_get (filter kindly xs) n) ≡ nth_of w n xs → same (slice_get (filter kindly xs) (suc n)) ≡ nth_of w (suc n) xs → same (slice_get (cond t (x ∷ filter kindly xs) (filter kindly xs)) (suc n)) ≡ cond t (nth_of w n xs) (nth_of w (suc n) xs)
      go true h k = h
      go false h k = k

  last-behind : (o : Option Part) (xs : List Part) → same (last_or o (filter kindly xs)) ≡ or_else (last_of w xs) (same o)
  unfolding last_of
  last-behind o [] = refl
  last-behind o (x ∷ xs) = go (kindly x) (last_of w xs) (last-behind o xs) (last-behind (Some x) xs)
    where
      go : (t : Bool) (m : math.Option Part) → same (last_or o (filter kindly xs)) ≡ or_else m (same o) → same (last_or (Some x) (filter kindly xs)) ≡ or_else m (some x) → same (last_or o (cond t (x ∷ filter kindly xs) (filter kindly xs))) ≡ or_else (or_else m (cond t (some x) none)) (same o)
      go true (some y) h k = k
      go true none h k = k
      go false (some y) h k = h
      go false none h k = h

  pub filter-last : (xs : List Part) → same (last_or None (filter kindly xs)) ≡ last_of w xs
  filter-last xs = last-behind None xs ∙ go (last_of w xs)
    where
      go : (m : math.Option Part) → or_else m none ≡ m
      go (some y) = refl
      go none = refl

-- ---- what `last` gives

map-last : {A B : Type 0} (v : A → B) (o : Option A) (xs : List A) → option_map v (last_or o xs) ≡ last_or (option_map v o) (map v xs)
map-last v o [] = refl
map-last v o (x ∷ xs) = map-last v (Some x) xs

pub last-yielded : {S A B : Type 0} {steps : S → Option A → S → Type 0} {v : A → B} {s : S} {all : List B} (r : Option A) → (xs : List A) × Drains steps s xs × (r ≡ last_or None xs) → YieldsList steps v s all → option_map v r ≡ last_or None all
last-yielded {v = v} r (xs, (u, (t, y, p)), e) l = ap (option_map v) e ∙ map-last v None xs ∙ ap (last_or None) (items_from_drains xs (t, y, λ _. (u, p)) l)
