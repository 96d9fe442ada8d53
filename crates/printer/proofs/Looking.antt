-- The laws of looking parts up: what was found is the part that the definition names, and one of the node's.
use Rattle.std.specs.Prelude.{◌≡◌, ℕ, ◌+◌, Bool, true, false, cond, not, ◌&&◌, ◌||◌, List, [], ◌∷◌, ◌++◌}
use Rattle.std.specs.Prelude as R
use mathlib.Core.Path.{refl, sym, ◌∙◌}
use mathlib.Core.Bool.{false≢true}
use mathlib.Core.Option.{Option, none as nothing, some}
use borrow.Author.Tests.{not-true}
use Rattle.text.specs.Basic.{any, is_nil, present, or_else}
use Rattle.tree.specs.Tree.{Part}
use Rattle.tree.specs.declared.class.Class.{Class}
use Rattle.tree.specs.declared.class.Kinds.{Kinds}
use Rattle.tree.specs.Class.{kinds, nth, last_of, last, plus_of, is_plus, number_of}
use Rattle.tree.specs.Index.{end_at, parts_from}
use Rattle.children.specs.declared.between.Bounds.{Bounds}
use Rattle.children.specs.Between.{has, Ends, Bounded}
use Rattle.children.proofs.Among.{has_here, has-later, none-some, nth-has, last_has}
use Rattle.printer.specs.declared.rows.Entry.{Entry}
use Rattle.printer.specs.Layout
use Rattle.printer.specs.Layout.{Want, asked}
use Rattle.printer.specs.Rows.{want_at, wanted, piece_of, tested}
use Rattle.printer.specs.Under.{At, parts_of}
use Rattle.printer.specs.Reads.{Has}
use Rattle.printer.proofs.Under.{at-region}

-- ---- what was found

module _ (index image : List ℕ) (i : ℕ) {a b : ℕ} (p : a ≡ i + 1) (q : b ≡ end_at index i) where
  -- the last part of a class
  pub last_found : {w : Kinds} (c : Class) {f : Option ℕ} → w ≡ kinds c → f ≡ number_of (last_of w (parts_from image index a b)) → f ≡ number_of (last c (parts_of image index i))
  last_found c e h = h ∙ rw (e, p, q)

-- ---- whether a part is there

present-number : (x : Option Part) → present (number_of x) ≡ present x
present-number nothing = refl
present-number (some x) = refl

pub there-none : (ps : List Part) {o : R.Option ℕ} → o ≡ R.None → false ≡ any (Layout.found ps) (wanted o)
unfolding wanted any
there-none ps e = rw e

pub there-some : (ps : List Part) {o : R.Option ℕ} (w : ℕ) {f : Option ℕ} {r : Bool} → o ≡ R.Some w → f ≡ number_of (nth (want_at w).class (want_at w).place ps) → r ≡ present f → r ≡ any (Layout.found ps) (wanted o)
unfolding wanted any
there-some ps w {f} {r} h e q = rw (h, q, e, present-number (nth (want_at w).class (want_at w).place ps)) (go (present (nth (want_at w).class (want_at w).place ps)))
  where
    go : (b : Bool) → b ≡ (b || false)
    go true = refl
    go false = refl

any-both : (f : Want → Bool) (xs ys : List Want) → any f (xs ++ ys) ≡ (any f xs || any f ys)
unfolding any
any-both f [] ys = refl
any-both f (x ∷ xs) ys = rw (any-both f xs ys) (go (f x))
  where
    go : (b : Bool) → (b || (any f xs || any f ys)) ≡ ((b || any f xs) || any f ys)
    go true = refl
    go false = refl

-- whether a wanted part is named
not_named : (o : R.Option ℕ) (a : Bool) → R.is_some o ≡ not a → is_nil (wanted o) ≡ a
unfolding wanted
not_named R.None true e = refl
not_named R.None false e = sym e
not_named (R.Some w) true e = sym e
not_named (R.Some w) false e = refl

nil-both : (xs ys : List Want) → is_nil (xs ++ ys) ≡ (is_nil xs && is_nil ys)
nil-both [] ys = refl
nil-both (x ∷ xs) ys = refl

-- a piece is asked for
pub asked_by : (ps : List Part) (x : Entry) (a b : Bool) {g o u : Bool} → R.is_some x.given ≡ not a → R.is_some x.other ≡ not b
    → g ≡ any (Layout.found ps) (wanted x.given) → o ≡ any (Layout.found ps) (wanted x.other) → u ≡ any (Layout.found ps) (wanted x.unless) → (((a && b) || (g || o)) && not u) ≡ asked ps (piece_of x)
asked_by ps x a b s t p q r = rw (← not_named x.given a s, ← not_named x.other b t, p, q, r, nil-both (wanted x.given) (wanted x.other), any-both (Layout.found ps) (wanted x.given) (wanted x.other))

-- so is one that goes by no parts
pub asked-always : (ps : List Part) (x : Entry) → x.tested ≡ tested (piece_of x) → not x.tested ≡ true → true ≡ asked ps (piece_of x)
unfolding any
asked-always ps x e h = go (piece_of x).given (piece_of x).unless (sym e ∙ not-true x.tested h)
  where
    go : (gs us : List Want) → not (is_nil gs && is_nil us) ≡ false → true ≡ ((is_nil gs || any (Layout.found ps) gs) && not (any (Layout.found ps) us))
    go [] [] h = refl
    go [] (u ∷ us) h = absurd (false≢true (sym h))
    go (g ∷ gs) us h = absurd (false≢true (sym h))

-- ---- what was found is one of the node's parts

plus-has : (j : ℕ) (xs : List Part) → number_of (plus_of xs) ≡ some j → has j xs ≡ true
unfolding plus_of
plus-has j [] e = none-some j e
plus-has j (x ∷ xs) e = go (is_plus x) e (plus-has j xs)
  where
    go : (t : Bool) → number_of (cond t (some x) (plus_of xs)) ≡ some j → (number_of (plus_of xs) ≡ some j → has j xs ≡ true) → has j (x ∷ xs) ≡ true
    go true e f = has_here j x xs e
    go false e f = has-later j x xs (f e)

-- a wanted part is one of the node's
pub want-has : (w : ℕ) (ps : List Part) {n : Option ℕ} → n ≡ number_of (nth (want_at w).class (want_at w).place ps) → Has ps n
want-has w ps e = record { part = λ j h. nth-has (kinds (want_at w).class) j (want_at w).place ps (sym e ∙ h) }

-- and so is a `+`
pub plus-part : (ps : List Part) {n : Option ℕ} → n ≡ number_of (plus_of ps) → Has ps n
plus-part ps e = record { part = λ j h. plus-has j ps (sym e ∙ h) }

-- the first part of a class is one of the node's
pub first-has : (c : Class) (ps : List Part) {n : Option ℕ} → n ≡ number_of (nth c 0 ps) → Has ps n
first-has c ps e = record { part = λ j h. nth-has (kinds c) j 0 ps (sym e ∙ h) }

-- nothing was found
pub none_has : (ps : List Part) {n : Option ℕ} → n ≡ nothing → Has ps n
none_has ps e = record { part = λ j h. none-some j (sym e ∙ h) }

-- the last part of a class is one of them
pub last-part : (c : Class) (ps : List Part) {n : Option ℕ} → n ≡ number_of (last c ps) → Has ps n
last-part c ps e = record { part = λ j h. last_has (kinds c) j ps (sym e ∙ h) }

-- and so is the first of two
pub or_has : (f g : Option ℕ) {ps : List Part} {h : Option ℕ} → h ≡ or_else f g → Has ps f → Has ps g → Has ps h
or_has nothing g e x y = rw e y
or_has (some n) g e x y = rw e x

-- a reading between two of them
pub ends-has : {image index : List ℕ} {i a b : ℕ} {s e : Option ℕ} → At image index i → a ≡ i + 1 → b ≡ end_at index i → Has (parts_of image index i) s → Has (parts_of image index i) e → Ends image index a b s e
ends-has t p q x y = rw (p, q) (record { region = at-region t refl refl; starts = x.part; ends = y.part })

-- its bounds by the parts that were found
pub bounded_as : {image index : List ℕ} {a b : ℕ} {s e s' e' : Option ℕ} {z : Bounds} → s ≡ s' → e ≡ e' → Bounded image index a b s e z → Bounded image index a b s' e' z
bounded_as x y h = rw (← x, ← y) h
