-- One element more in a gap: its lists, and its tally.
use mathlib.Core.Path.{◌≡◌, refl, sym, ◌∙◌}
use mathlib.Core.Bool.{Bool, true, false, cond, not, ◌&&◌, ◌||◌, or-false}
use mathlib.Core.List.{List, [], ◌∷◌, ◌++◌, append-nil, append_assoc}
use Prim.Native.Nat.{ℕ, zero, suc, ◌+◌, ◌*◌, ◌-◌, ◌<◌, ◌≤◌, ◌^◌}
use native.Mathlib.Omega.{arith}
use mir.Val.{bool_byte}
use lib.Dec.{eqb}
use lib.ListN.{length, take, drop}
use borrow.Author.Tests.{not-true}
use Rattle.text.specs.Basic.{count, any}
use Rattle.text.proofs.Lists.{and_true}
use Rattle.tree.specs.Class.{is, of_kind, kinds, all_of}
use Rattle.tree.specs.declared.class.Class.TheVariants as Class
use Rattle.tree.specs.Index.{Table, parts_from, part_at, kind_at, text_at, start_at, end_at}
use Rattle.tree.proofs.Siblings.{parts-over}
use Rattle.children.specs.declared.tally.Tally.{Tally}
use Rattle.children.specs.Reading.{is_note, newlines_before, newlines_back}
use Rattle.children.specs.Gaps.{space_in}
use Rattle.children.specs.Stretch.{Jumps, notes, inline_in, waiting_in}
use Rattle.children.specs.Tally.{nothing, counted, Tells}
use Rattle.children.proofs.Stretch.{note-kinds}
use Rattle.children.proofs.Walks.{parts_more, all_more}
use Rattle.children.proofs.Tallies.{other-single, other-space, tells-inline, tells-waiting}

-- ---- the lists of a gap

pub inline-none : (index image : List ℕ) (a : ℕ) → inline_in image index a a ≡ []
unfolding inline_in all_of
inline-none index image a = rw (parts-over index image a a (omega arith))

pub waiting_none : (index image : List ℕ) (a : ℕ) → waiting_in image index a a a ≡ []
unfolding waiting_in all_of
waiting_none index image a = rw (parts-over index image a a (omega arith))

module _ {index image : List ℕ} {n : ℕ} (t : Table image index n) (from j : ℕ) (k : j < n) where
  pub inline-more : Jumps index n from j → inline_in image index from (end_at index j) ≡ inline_in image index from j ++ cond (is Class.Trivia (part_at image index j)) (part_at image index j ∷ []) []
  unfolding inline_in
  inline-more p = rw (parts_more t p k, all_more (kinds Class.Trivia) (parts_from image index from j) (part_at image index j))

  pub waiting-follow : Jumps index n from j → waiting_in image index from (end_at index j) (end_at index j) ≡ waiting_in image index from j j ++ cond (is Class.CustomError (part_at image index j)) (part_at image index j ∷ []) []
  unfolding waiting_in all_of
  waiting-follow p =
      rw (
        parts-over index image (end_at index j) (end_at index j) (omega arith),
        parts-over index image j j (omega arith),
        parts_more t p k,
        all_more (kinds Class.CustomError) (parts_from image index from j) (part_at image index j),
        append-nil,
        append-nil,
      )

  pub waiting-more : (cut : ℕ) → Jumps index n cut j → waiting_in image index from cut (end_at index j) ≡ waiting_in image index from cut j ++ cond (is_note (part_at image index j)) (part_at image index j ∷ []) []
  unfolding waiting_in
  waiting-more cut p = rw (parts_more t p k, all_more notes (parts_from image index cut j) (part_at image index j), note-kinds (part_at image index j), append_assoc)

-- ---- how large the sums are

count-take : (k : ℕ) (s : List ℕ) → count 10 (take k s) ≤ k
unfolding count
count-take zero [] = omega arith
count-take zero (x ∷ s) = omega arith
count-take (suc k) [] = omega arith
count-take (suc k) (x ∷ s) = go (eqb x 10) (count-take k s)
  where
    go : (b : Bool) → count 10 (take k s) ≤ k → cond b (suc (count 10 (take k s))) (count 10 (take k s)) ≤ suc k
    go true h = omega arith
    go false h = omega arith

-- the line feeds of an element lie in its text
space-few : {index image : List ℕ} {n : ℕ} (t : Table image index n) (j : ℕ) → j < n → space_in (part_at image index j) + start_at index j ≤ start_at index (end_at index j)
unfolding space_in text_at
space-few {index} {image} t j h =
    let q : start_at index j ≤ start_at index (end_at index j) = t.forward j (end_at index j) (omega (arith, t.past j h)) (t.inside j h) in
    go (eqb (kind_at index j) 64) (count-take (start_at index (end_at index j) - start_at index j) (drop (start_at index j) image)) q
  where
    go : (b : Bool) {c : ℕ} → c ≤ start_at index (end_at index j) - start_at index j → start_at index j ≤ start_at index (end_at index j) → cond b c 0 + start_at index j ≤ start_at index (end_at index j)
    go true h q = omega arith
    go false h q = omega arith

-- one element adds its line feeds and 2 at most
counted-few : (b : Bool) (k f : ℕ) (t : Tally) → (counted b k f t).before + (counted b k f t).back ≤ t.before + t.back + f + 2
unfolding counted
counted-few b k f t = go b t.ended (of_kind Class.CustomError k) (of_kind Class.SingleLine k)
  where
    go : (b c e l : Bool) → t.before + cond c 0 (cond b 0 f + cond e 1 0) + cond b (cond l 1 (f + t.back)) t.back ≤ t.before + t.back + f + 2
    go true true e true = omega arith
    go true true e false = omega arith
    go true false true true = omega arith
    go true false true false = omega arith
    go true false false true = omega arith
    go true false false false = omega arith
    go false true e l = omega arith
    go false false true l = omega arith
    go false false false l = omega arith

-- ---- `tallied`

-- a test as a number
bool_is : (b : Bool) → bool_byte b ≡ cond b 1 0
bool_is true = refl
bool_is false = refl

pub counted_is : (t : Tally) (follows : Bool) (k f : ℕ) {e v l : Bool} {p q n i o : ℕ} → e ≡ of_kind Class.CustomError k → v ≡ of_kind Class.Trivia k → l ≡ of_kind Class.SingleLine k
    → p ≡ cond follows 0 f → q ≡ bool_byte e → i ≡ cond l 1 (f + t.back) → n ≡ cond t.ended 0 (p + q) → o ≡ cond follows i t.back
    → record { before = t.before + n; back = o; waits = (t.waits || e) || (v && not follows); ended = t.ended || ((v && not (eqb k 64)) && not follows); noted = (t.noted || e) || (v && not (eqb k 64)) } ≡ counted follows k f t
unfolding counted
counted_is t follows k f a b c d e g h i = rw (h, i, g, d, e, bool_is, a, b, c)

-- what an element that counts nothing makes of the numbers and tests of a tally
none_before : (n : ℕ) (ended follows : Bool) → n + cond ended 0 (cond follows 0 0 + 0) ≡ n
none_before n true follows = omega arith
none_before n false true = omega arith
none_before n false false = omega arith

none-back : (n : ℕ) (follows : Bool) → cond follows (0 + n) n ≡ n
none-back n true = omega arith
none-back n false = refl

none_told : (b : Bool) → ((b || false) || false) ≡ b
none_told true = refl
none_told false = refl

-- an element that is neither trivia nor a custom error
pub counted_none : (t : Tally) (follows : Bool) (k f : ℕ) {e v : Bool} → e ≡ of_kind Class.CustomError k → v ≡ of_kind Class.Trivia k → ((k ≡ 64 → ⊥) → f ≡ 0) → (not e && not v) ≡ true → t ≡ counted follows k f t
unfolding counted
counted_none t follows k f {e} {v} a b z h =
    let (p, q) = and_true (not e) (not v) h in
    let r : of_kind Class.Trivia k ≡ false = sym b ∙ not-true v q in
    rw (
      sym a ∙ not-true e p,
      r,
      other-single k r,
      z (other-space k r),
      none_before t.before t.ended follows,
      none-back t.back follows,
      none_told t.waits,
      or-false t.ended,
      none_told t.noted,
    )

-- ---- the tally of a gap

-- t is the tally of a gap that begins at `from`, has its cut there and has come to j.
pub record Tallied (index image : List ℕ) (from cut j : ℕ) (t : Tally) : Type 0 where
  pub tells : Tells (inline_in image index from cut) (waiting_in image index from cut j) t
  pub few : t.before + t.back + start_at index from ≤ start_at index j + 2 * j

pub tallied-none : (index image : List ℕ) (a : ℕ) → Tallied index image a a a nothing
unfolding newlines_before newlines_back any
tallied-none index image a = record { tells = rw (inline-none, waiting_none) (record { before = refl; back = refl; waits = refl; ended = refl; noted = refl }); few = omega arith }

module _ {index image : List ℕ} {n : ℕ} (t : Table image index n) {from cut j : ℕ} {y : Tally} (K : Tallied index image from cut j y) where
  -- the newlines are no more than there are bytes, and two for each element
  pub tallied-few : j ≤ n → y.before + y.back ≤ length image + 2 * n
  tallied-few k = omega (arith, K.few, t.forward j n k (omega arith), t.whole)

  module _ (k : j < n) where
    more-few : (b : Bool) → (counted b (kind_at index j) (space_in (part_at image index j)) y).before + (counted b (kind_at index j) (space_in (part_at image index j)) y).back + start_at index from ≤ start_at index (end_at index j) + 2 * end_at index j
    more-few b = omega (arith, K.few, counted-few b (kind_at index j) (space_in (part_at image index j)) y, space-few t j k, t.past j k)

    -- nor with the element at hand
    pub tallied-fits : (f : ℕ) → f ≡ space_in (part_at image index j) → y.before + y.back + f + 2 < 2 ^ 64
    tallied-fits f e = omega (arith, K.few, space-few t j k, t.inside j k, t.forward (end_at index j) n (t.inside j k) (omega arith), t.whole, t.short, t.few)

    -- the element stands behind the cut
    pub tallied-stays : Jumps index n cut j → Tallied index image from cut (end_at index j) (counted false (kind_at index j) (space_in (part_at image index j)) y)
    tallied-stays p = record { tells = rw (waiting-more t from j k cut p) (tells-waiting K.tells (part_at image index j)); few = more-few false }

-- the cut goes on with the element
pub tallied-goes : {index image : List ℕ} {n : ℕ} (t : Table image index n) {from j : ℕ} {y : Tally} → Tallied index image from j j y → j < n → Jumps index n from j
    → Tallied index image from (end_at index j) (end_at index j) (counted true (kind_at index j) (space_in (part_at image index j)) y)
tallied-goes {index} {image} t {from} {j} K k p = record { tells = rw (inline-more t from j k p, waiting-follow t from j k p) (tells-inline K.tells (part_at image index j)); few = more-few t K k true }
