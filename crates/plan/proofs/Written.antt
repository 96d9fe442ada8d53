-- What the writer of a plan shows.
use Rattle.std.specs.Prelude.{◌≡◌, ℕ, zero, suc, ◌+◌, ◌/◌, ◌%◌, ◌<◌, ◌≤◌, Bool, true, false, ltb, List, [], ◌∷◌, get_or, Option, Some, None, IsSome}
use Rattle.std.specs.Borrow.{MutBor}
use mathlib.Core.Path.{refl, sym, ap, ◌∙◌}
use native.Mathlib.Omega.{arith}
use lib.ListN.{length, take}
use lib.Seq.{get_or-take, length-take-le}
use native.Mathlib.Numerals.{add-one}
use borrow.Author.Tests.{ne_eqb, le-leb, lt-leb, ltb-true, ltb-false}
use Rattle.text.specs.Basic.{ascii}
use Rattle.items.specs.Item.{Item, text, plain_item}
use Rattle.items.specs.declared.Output.{Output}
use Rattle.items.specs.declared.Size.{Size}
use Rattle.items.specs.Machine.{all_fit, sized, no_size, Puts, output, Says}
use Rattle.items.proofs.Fits.{sized-none, sized-append, puts_none, puts-append, fit_append, said-puts, said-done}
use Rattle.comments.specs.Comments.{Location, comment}
use Rattle.tree.specs.Index.{kind_at}
use Rattle.plan.specs.Words.{word_at}
use Rattle.plan.specs.Ops.{token, note, place_by, expand, op_items, decoded}
use Rattle.tree.specs.Source.{Source}

-- ---- an operation by its kind

module _ (s : Source) (op : ℕ) where
  abbrev kind : ℕ
  kind = op % 32

  abbrev operand : ℕ
  operand = op / 32

  pub token-op : kind ≡ 0 → op_items s op ≡ text (token s operand) ∷ []
  unfolding op_items expand
  token-op e = rw e refl

  pub word-op : kind ≡ 1 → op_items s op ≡ text (ascii (word_at operand)) ∷ []
  unfolding op_items expand
  word-op e = rw e refl

  pub note-op : 19 ≤ kind → op_items s op ≡ note s operand (place_by kind)
  unfolding op_items expand
  note-op h = rw (ne_eqb kind 0 (λ e. omega (arith, h, e)), ne_eqb kind 1 (λ e. omega (arith, h, e)), le-leb 19 kind h) refl

  pub plain_op : (kind ≡ 0 → ⊥) → (kind ≡ 1 → ⊥) → kind < 19 → op_items s op ≡ plain_item kind operand ∷ []
  unfolding op_items expand
  plain_op e f h = rw (ne_eqb kind 0 e, ne_eqb kind 1 f, lt-leb 19 kind h) refl

-- a text by another name
pub texted : {s t : List ℕ} → s ≡ t → text s ∷ [] ≡ text t ∷ []
texted e = rw e refl

-- ---- a comment

pub noted : (s : Source) (t : ℕ) {l m : Location} → l ≡ m → note s t l ≡ note s t m
noted s t e = rw e refl

-- printed in lent buffers from a size on
module _ (s : Source) (t : ℕ) (loc : Location) {k : ℕ} {ys : List ℕ} {rs ts : MutBor (List ℕ)} {z : Size} {a : Output} {r : Option Size}
    (i : k ≡ kind_at s.index t)
    (j : ys ≡ token s t)
    (f : all_fit (note s t loc) z ≡ true)
    (h : Says (comment k ys loc) (output rs ts (Some z)) a)
    (q : r ≡ a.size) where
  said : Says (note s t loc) (output rs ts (Some z)) a
  said = rw (i, j) at h

  pub note-puts : {d : Size} {rs' ts' : List ℕ} → r ≡ Some d → rs' ≡ a.records.now → ts' ≡ a.texts.now → Puts (note s t loc) rs.now ts.now z rs' ts' d
  note-puts e u v = rw (u, v) (said-puts (note s t loc) f refl said (sym q ∙ e))

  -- it comes to its end
  pub note-some : IsSome r
  note-some = go r refl
    where
      go : (o : Option Size) → r ≡ o → IsSome o
      go (Some d) e = refl
      go None e = absurd (said-done (note s t loc) f refl said (sym q ∙ e))

-- what is put by another name
pub puts_as : {xs ys : List Item} {rs ts rs' ts' : List ℕ} {p d : Size} → xs ≡ ys → Puts ys rs ts p rs' ts' d → Puts xs rs ts p rs' ts' d
puts_as e h = rw e h

pub sized_as : (p : Size) {xs ys : List Item} {d : Size} → xs ≡ ys → d ≡ sized ys p → d ≡ sized xs p
sized_as p e h = rw e h

pub fits_as : (xs ys : List Item) (p : Size) → xs ≡ ys → all_fit xs p ≡ true → all_fit ys p ≡ true
fits_as xs ys p e h = rw e at h

-- ---- the loops

-- the operation at i fits behind those before it
fit_at : (s : Source) (ops : List ℕ) (l : Bool) (n i : ℕ) → i < n → all_fit (decoded s ops n) (no_size l) ≡ true → all_fit (op_items s (get_or ops i 0)) (sized (decoded s ops i) (no_size l)) ≡ true
unfolding decoded
fit_at s ops l zero i h f = absurd (omega arith)
fit_at s ops l (suc n) i h f = go (ltb i n) refl (fit_append (decoded s ops n) (op_items s (get_or ops n 0)) (no_size l) f) (fit_at s ops l n i)
  where
    go : (b : Bool) → ltb i n ≡ b → (all_fit (decoded s ops n) (no_size l) ≡ true) × (all_fit (op_items s (get_or ops n 0)) (sized (decoded s ops n) (no_size l)) ≡ true)
        → (i < n → all_fit (decoded s ops n) (no_size l) ≡ true → all_fit (op_items s (get_or ops i 0)) (sized (decoded s ops i) (no_size l)) ≡ true)
        → all_fit (op_items s (get_or ops i 0)) (sized (decoded s ops i) (no_size l)) ≡ true
    go true e (p, q) k = k (ltb-true i n e) p
    go false e (p, q) k = let z : i ≡ n = omega (arith, h, ltb-false i n e) in rw z q

-- a place among the first n operations
in_front : (ops : List ℕ) (n i : ℕ) → n ≤ length ops → i < length (take n ops) → (i < n) × (get_or (take n ops) i 0 ≡ get_or ops i 0)
in_front ops n i b h = let k : i < n = omega (arith, length-take-le n ops b) in (k, get_or-take n ops i 0 k)

-- The first i operations are counted.
pub record Counting (s : Source) (ops : List ℕ) (n : ℕ) (l : Bool) (p : Size) (i : ℕ) : Type 0 where
  pub within : i ≤ n
  pub fits : all_fit (decoded s ops n) (no_size l) ≡ true
  pub so_far : p ≡ sized (decoded s ops i) (no_size l)

pub counting-none : (s : Source) (ops : List ℕ) (n : ℕ) (l : Bool) {p : Size} → p ≡ no_size l → all_fit (decoded s ops n) (no_size l) ≡ true → Counting s ops n l p 0
unfolding decoded
counting-none s ops n l e f = record { within = omega arith; fits = f; so_far = e ∙ sized-none (no_size l) }

module _ {s : Source} {ops : List ℕ} {n : ℕ} {l : Bool} {p : Size} {i : ℕ} (b : n ≤ length ops) (w : Counting s ops n l p i) where
  -- the next one fits
  pub counting-fits : i < length (take n ops) → all_fit (op_items s (get_or (take n ops) i 0)) p ≡ true
  counting-fits h = let (k, o) = in_front ops n i b h in rw (o, w.so_far) (fit_at s ops l n i k w.fits)

  pub counting_more : i < length (take n ops) → {d : Size} → d ≡ sized (op_items s (get_or (take n ops) i 0)) p → Counting s ops n l d (i + 1)
  unfolding decoded
  counting_more h e =
      let (k, o) = in_front ops n i b h in
      rw (add-one i) (record { within = omega (arith, k); fits = w.fits; so_far = rw (o, w.so_far) at e ∙ sized-append (decoded s ops i) (op_items s (get_or ops i 0)) (no_size l) })

-- The first i operations are written, and so counted.
pub record Writing (s : Source) (ops : List ℕ) (n : ℕ) (rs ts rs' ts' : List ℕ) (p : Size) (i : ℕ) : Type 0 where
  pub counts : Counting s ops n false p i
  pub so_far : Puts (decoded s ops i) rs ts (no_size false) rs' ts' p

pub writing_none : (s : Source) (ops : List ℕ) (n : ℕ) (rs ts : List ℕ) {p : Size} → p ≡ no_size false → all_fit (decoded s ops n) (no_size false) ≡ true → Writing s ops n rs ts rs ts p 0
unfolding decoded
writing_none s ops n rs ts e f = record { counts = counting-none s ops n false e f; so_far = rw e (puts_none rs ts (no_size false)) }

module _ {s : Source} {ops : List ℕ} {n : ℕ} {rs ts rs' ts' : List ℕ} {p : Size} {i : ℕ} (b : n ≤ length ops) (w : Writing s ops n rs ts rs' ts' p i) where
  -- the next one fits, and records are not listed
  pub writing-fits : i < length (take n ops) → (p.listed ≡ false) × (all_fit (op_items s (get_or (take n ops) i 0)) p ≡ true)
  writing-fits h = (ap Size.listed w.counts.so_far, counting-fits b w.counts h)

  pub writing_more : i < length (take n ops) → {rs'' ts'' : List ℕ} {d : Size} → Puts (op_items s (get_or (take n ops) i 0)) rs' ts' p rs'' ts'' d → Writing s ops n rs ts rs'' ts'' d (i + 1)
  unfolding decoded
  writing_more h k = record { counts = counting_more b w.counts h k.size; so_far = rw (add-one i) (puts-append w.so_far (rw (in_front ops n i b h).1 at k)) }
