-- Columns of a node's parts that do not meet weigh at most what all parts weigh: by tests computed over all kinds.
use mathlib.Core.Path.{◌≡◌, refl}
use mathlib.Core.Bool.{Bool, true, false, cond, not, ◌&&◌, ◌||◌, false≢true}
use mathlib.Core.Option.{Option, none, some}
use mathlib.Core.List.{List, [], ◌∷◌}
use Prim.Native.Nat.{ℕ, ◌+◌, ◌*◌, ◌≤◌}
use native.Mathlib.Omega.{arith}
use lib.Dec.{eqb}
use borrow.Author.Tests.{ne_eqb, eq-eqb}
use Rattle.text.specs.Basic.{ascii, same_bytes, sum}
use Rattle.text.proofs.Lists.{and_true}
use Rattle.tree.specs.Tree.{Part}
use Rattle.tree.specs.declared.class.Class.{Class}
use Rattle.tree.specs.Class.{is, of_kind, nth_of, nth, is_plus, plus_of}
use Rattle.children.specs.Reading.{is_note}
use Rattle.formatter.proofs.Tests.{of_kind-far, every, everywhere}
use Rattle.formatter.proofs.Weights.{noted}

-- Some of the parts of a node: all of a class; those of a class whose kind has not been seen before them, or has; trivia and errors.
pub data Column : Type 0 where
  whole early late : Class → Column
  note : Column

-- a column has a part, by whether its kind has been seen before, and its kind
abbrev pub test : Column → Bool → ℕ → Bool
test (whole c) seen k = of_kind c k
test (early c) seen k = of_kind c k && not seen
test (late c) seen k = of_kind c k && seen
test note seen k = of_kind Class.Trivia k || of_kind Class.CustomError k

-- none of the columns has a part
unfoldable pub empty : List Column → Bool → ℕ → Bool
empty [] seen k = true
empty (c ∷ cs) seen k = not (test c seen k) && empty cs seen k

-- at most one of the columns has a part
unfoldable pub single : List Column → Bool → ℕ → Bool
single [] seen k = true
single (c ∷ cs) seen k = cond (test c seen k) (empty cs seen k) (single cs seen k)

-- no two of the columns meet
unfoldable pub apart : List Column → Bool
apart cs = every (λ k. single cs true k && single cs false k) 108

test-far : (c : Column) (seen : Bool) (k : ℕ) → 108 ≤ k → test c seen k ≡ false
test-far (whole c) seen k h = of_kind-far c k h
test-far (early c) seen k h = rw (of_kind-far c k h) refl
test-far (late c) seen k h = rw (of_kind-far c k h) refl
test-far note seen k h = rw (of_kind-far Class.Trivia k h, of_kind-far Class.CustomError k h) refl

single-far : (cs : List Column) (seen : Bool) (k : ℕ) → 108 ≤ k → single cs seen k ≡ true
unfolding single
single-far [] seen k h = refl
single-far (c ∷ cs) seen k h = rw (test-far c seen k h) (single-far cs seen k h)

apart-single : (cs : List Column) → apart cs ≡ true → (seen : Bool) (k : ℕ) → single cs seen k ≡ true
unfolding apart
apart-single cs h seen k = go seen (and_true (single cs true k) (single cs false k)
    (everywhere (λ j. single cs true j && single cs false j) h (λ j l. rw (single-far cs true j l, single-far cs false j l) refl) k))
  where
    go : (b : Bool) → (single cs true k ≡ true) × (single cs false k ≡ true) → single cs b k ≡ true
    go true p = p.0
    go false p = p.1

-- which kinds have been seen
abbrev pub Seen : Type 0
Seen = ℕ → Bool

-- what has been seen behind a part
abbrev pub seeing : Part → Seen → Seen
seeing y seen k = eqb k y.kind || seen k

empty_share : (b e : Bool) (w m : ℕ) → (not b && e) ≡ true → (e ≡ true → m ≡ 0) → cond b w 0 + m ≡ 0
empty_share true e w m h r = absurd (false≢true h)
empty_share false e w m h r = omega (arith, r h)

single_share : (b e s : Bool) (w m : ℕ) → cond b e s ≡ true → (e ≡ true → m ≡ 0) → (s ≡ true → m ≤ w) → cond b w 0 + m ≤ w
single_share true e s w m h r t = omega (arith, r h)
single_share false e s w m h r t = omega (arith, t h)

data Which (b : Bool) : Type 0 where
  holds : b ≡ true → Which b
  fails : b ≡ false → Which b

which : (b : Bool) → Which b
which true = holds refl
which false = fails refl

or_true : (a b : Bool) → b ≡ true → (a || b) ≡ true
or_true true b h = refl
or_true false b h = h

-- nothing of the class, or all of it, has been seen
abbrev Unseen : Class → Seen → Type 0
Unseen c seen = (k : ℕ) → of_kind c k ≡ true → seen k ≡ false

abbrev Known : Class → Seen → Type 0
Known c seen = (k : ℕ) → of_kind c k ≡ true → seen k ≡ true

unseen_on : (c : Class) (y : Part) (seen : Seen) → is c y ≡ false → Unseen c seen → Unseen c (seeing y seen)
unseen_on c y seen f h k e = rw (ne_eqb k y.kind (λ q. false≢true (rw (← e, q, f)))) (h k e)

module _ (weight : Part → ℕ) where
  -- the weight that the columns have of one part
  unfoldable pub shares : List Column → Bool → Part → ℕ
  shares [] seen y = 0
  shares (c ∷ cs) seen y = cond (test c seen y.kind) (weight y) 0 + shares cs seen y

  shares-empty : (cs : List Column) (seen : Bool) (y : Part) → empty cs seen y.kind ≡ true → shares cs seen y ≡ 0
  unfolding shares empty
  shares-empty [] seen y h = refl
  shares-empty (c ∷ cs) seen y h = empty_share (test c seen y.kind) (empty cs seen y.kind) _ _ h (shares-empty cs seen y)

  shares-single : (cs : List Column) (seen : Bool) (y : Part) → single cs seen y.kind ≡ true → shares cs seen y ≤ weight y
  unfolding shares single
  shares-single [] seen y h = omega arith
  shares-single (c ∷ cs) seen y h = single_share (test c seen y.kind) (empty cs seen y.kind) _ _ _ h (shares-empty cs seen y) (shares-single cs seen y)

  -- the weight of a column
  unfoldable pub column : Column → Seen → List Part → ℕ
  column c seen [] = 0
  column c seen (y ∷ ys) = cond (test c (seen y.kind) y.kind) (weight y) 0 + column c (seeing y seen) ys

  -- the weight of columns
  unfoldable pub columns : List Column → Seen → List Part → ℕ
  columns cs seen ys = sum (λ c. column c seen ys) cs

  columns-nil : (cs : List Column) (seen : Seen) → columns cs seen [] ≡ 0
  unfolding columns sum column
  columns-nil [] seen = refl
  columns-nil (c ∷ cs) seen = omega (arith, columns-nil cs seen)

  columns-cons : (cs : List Column) (seen : Seen) (y : Part) (ys : List Part) → columns cs seen (y ∷ ys) ≡ shares cs (seen y.kind) y + columns cs (seeing y seen) ys
  unfolding columns sum column shares
  columns-cons [] seen y ys = refl
  columns-cons (c ∷ cs) seen y ys = omega (arith, columns-cons cs seen y ys)

  -- columns that are apart weigh at most what all parts weigh
  pub columns-le : (cs : List Column) → apart cs ≡ true → (seen : Seen) (ys : List Part) → columns cs seen ys ≤ sum weight ys
  unfolding sum
  columns-le cs h seen [] = rw columns-nil (omega arith)
  columns-le cs h seen (y ∷ ys) =
      rw columns-cons (omega (arith, shares-single cs (seen y.kind) y (apart-single cs h (seen y.kind) y.kind), columns-le cs h (seeing y seen) ys))

  -- the weight of what one picks
  abbrev pub weight_of : Option Part → ℕ
  weight_of none = 0
  weight_of (some y) = weight y

  pub whole_sum : (c : Class) (seen : Seen) (ys : List Part) → sum (λ y. cond (is c y) (weight y) 0) ys ≡ column (whole c) seen ys
  unfolding sum column
  whole_sum c seen [] = refl
  whole_sum c seen (y ∷ ys) = rw (whole_sum c (seeing y seen) ys)

  early-go : (c : Class) (y : Part) (ys : List Part) (seen : Seen) → Which (is c y) → Unseen c seen
      → ((s : Seen) → Unseen c s → weight_of (nth c 0 ys) ≤ column (early c) s ys) → weight_of (nth c 0 (y ∷ ys)) ≤ column (early c) seen (y ∷ ys)
  unfolding nth_of column
  early-go c y ys seen (holds e) h r = rw (e, h y.kind e) (omega arith)
  early-go c y ys seen (fails e) h r = rw e (omega (arith, r (seeing y seen) (unseen_on c y seen e h)))

  pub early-nth : (c : Class) (ys : List Part) (seen : Seen) → Unseen c seen → weight_of (nth c 0 ys) ≤ column (early c) seen ys
  unfolding nth_of column
  early-nth c [] seen h = omega arith
  early-nth c (y ∷ ys) seen h = early-go c y ys seen (which (is c y)) h (early-nth c ys)

  late-go : (c : Class) (y : Part) (ys : List Part) (seen : Seen) → Which (is c y) → Known c seen
      → ((s : Seen) → Known c s → weight_of (nth c 0 ys) ≤ column (late c) s ys) → weight_of (nth c 0 (y ∷ ys)) ≤ column (late c) seen (y ∷ ys)
  unfolding nth_of column
  late-go c y ys seen (holds e) h r = rw (e, h y.kind e) (omega arith)
  late-go c y ys seen (fails e) h r = rw e (omega (arith, r (seeing y seen) (λ k f. or_true (eqb k y.kind) (seen k) (h k f))))

  late-nth : (c : Class) (ys : List Part) (seen : Seen) → Known c seen → weight_of (nth c 0 ys) ≤ column (late c) seen ys
  unfolding nth_of column
  late-nth c [] seen h = omega arith
  late-nth c (y ∷ ys) seen h = late-go c y ys seen (which (is c y)) h (late-nth c ys)

  pub plus-sum : (seen : Seen) (ys : List Part) → weight_of (plus_of ys) ≤ column (whole Class.Operator) seen ys
  unfolding plus_of is_plus column
  plus-sum seen [] = omega arith
  plus-sum seen (y ∷ ys) = go (is Class.Operator y) (same_bytes y.text (ascii "+")) (plus-sum (seeing y seen) ys)
    where
      go : (a b : Bool) {n : ℕ} → weight_of (plus_of ys) ≤ n → weight_of (cond (a && b) (some y) (plus_of ys)) ≤ cond a (weight y) 0 + n
      go true true h = omega arith
      go true false h = omega arith
      go false b h = omega arith

  -- the second of a class that has but one kind
  module _ (c : Class) (n : ℕ) (alone : (k : ℕ) → of_kind c k ≡ true → k ≡ n) where
    second-go : (y : Part) (ys : List Part) (seen : Seen) → Which (is c y)
        → ((s : Seen) → weight_of (nth c 1 ys) ≤ column (late c) s ys) → weight_of (nth c 1 (y ∷ ys)) ≤ column (late c) seen (y ∷ ys)
    unfolding nth_of column
    second-go y ys seen (holds e) r = rw e (omega (arith, late-nth c ys (seeing y seen) (λ k f. rw (eq-eqb k y.kind (rw (alone k f, alone y.kind e))) refl)))
    second-go y ys seen (fails e) r = rw e (omega (arith, r (seeing y seen)))

    pub second-nth : (ys : List Part) (seen : Seen) → weight_of (nth c 1 ys) ≤ column (late c) seen ys
    unfolding nth_of column
    second-nth [] seen = omega arith
    second-nth (y ∷ ys) seen = second-go y ys seen (which (is c y)) (second-nth ys)

  -- trivia and errors, where a part weighs twice its comment
  module _ (half : Part → ℕ) (heavy : (y : Part) → 2 * half y ≤ weight y) where
    twice_half : (b : Bool) (y : Part) → 2 * cond b (half y) 0 ≤ cond b (weight y) 0
    twice_half true y = heavy y
    twice_half false y = omega arith

    pub note-sum : (seen : Seen) (ys : List Part) → 2 * sum (noted half) ys ≤ column note seen ys
    unfolding sum column
    note-sum seen [] = omega arith
    note-sum seen (y ∷ ys) = omega (arith, twice_half (is_note y) y, note-sum (seeing y seen) ys)
