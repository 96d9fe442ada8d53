-- The table is filled from its last entry to its first.
use mathlib.Core.Path.{◌≡◌, refl, ap, ◌∙◌, sym}
use mathlib.Core.List.{List}
use Prim.Native.Nat.{ℕ, ◌+◌, ◌*◌, ◌-◌, ◌<◌, ◌≤◌}
use native.Mathlib.Omega.{arith}
use native.Mathlib.Decide.{ℕ_discrete}
use lib.ListN.{length, get_or, set, drop, length-set}
use lib.Seq.{get_or-set_same, get_or-set_other, drop-set-lt}
use Rattle.tree.specs.Tree.{count_n}
use Rattle.tree.specs.Image.{kind_in, size_in, place_in}
use Rattle.tree.proofs.Passing.{Accepted, accepted}
use Rattle.tree.specs.Index.{kind_at, end_at, start_at, Entry, index_size, IndexedFrom, Indexable, end_in}
use Rattle.tree.proofs.Elements.{start-next}

-- a table after one, two and three numbers of an entry were written
abbrev put₁ : List ℕ → ℕ → ℕ → List ℕ
put₁ t i kind = set t (i * 3) kind

abbrev put₂ : List ℕ → ℕ → ℕ → ℕ → List ℕ
put₂ t i kind end = set (put₁ t i kind) (i * 3 + 1) end

abbrev pub put : List ℕ → ℕ → ℕ → ℕ → ℕ → List ℕ
put t i kind end start = set (put₂ t i kind end) (i * 3 + 2) start

module _ (t : List ℕ) (i kind end start : ℕ) where
  pub put-length : length (put t i kind end start) ≡ length t
  put-length = simp length-set

  pub put-drop : (n : ℕ) → i * 3 + 3 ≤ n → drop n (put t i kind end start) ≡ drop n t
  put-drop n h =
      drop-set-lt n (put₂ t i kind end) (i * 3 + 2) start (omega arith)
      ∙ drop-set-lt n (put₁ t i kind) (i * 3 + 1) end (omega arith)
      ∙ drop-set-lt n t (i * 3) kind (omega arith)

  -- a number at another place
  put-past₂ : (k : ℕ) → (k ≡ i * 3 + 1 → ⊥) → (k ≡ i * 3 + 2 → ⊥) → get_or (put t i kind end start) k 0 ≡ get_or (put₁ t i kind) k 0
  put-past₂ k b c = get_or-set_other (put₂ t i kind end) (i * 3 + 2) k start 0 c ∙ get_or-set_other (put₁ t i kind) (i * 3 + 1) k end 0 b

  put-past : (k : ℕ) → (k ≡ i * 3 → ⊥) → (k ≡ i * 3 + 1 → ⊥) → (k ≡ i * 3 + 2 → ⊥) → get_or (put t i kind end start) k 0 ≡ get_or t k 0
  put-past k a b c = put-past₂ k b c ∙ get_or-set_other t (i * 3) k kind 0 a

  put-here : i * 3 + 2 < length t → Entry (put t i kind end start) i kind end start
  unfolding kind_at end_at start_at
  put-here h =
      record {
        kinds = put-past₂ (i * 3) (λ q. omega arith) (λ q. omega arith) ∙ get_or-set_same t (i * 3) kind 0 (omega arith);
        ends = get_or-set_other (put₂ t i kind end) (i * 3 + 2) (i * 3 + 1) start 0 (λ q. omega arith) ∙ get_or-set_same (put₁ t i kind) (i * 3 + 1) end 0 (simp length-set (omega arith));
        starts = get_or-set_same (put₂ t i kind end) (i * 3 + 2) start 0 (simp length-set (omega arith));
      }

  put_other : {j a b c : ℕ} → (j ≡ i → ⊥) → Entry t j a b c → Entry (put t i kind end start) j a b c
  unfolding kind_at end_at start_at
  put_other {j} n e =
      record {
        kinds = put-past (j * 3) (λ q. n (omega arith)) (λ q. omega arith) (λ q. omega arith) ∙ e.kinds;
        ends = put-past (j * 3 + 1) (λ q. omega arith) (λ q. n (omega arith)) (λ q. omega arith) ∙ e.ends;
        starts = put-past (j * 3 + 2) (λ q. omega arith) (λ q. omega arith) (λ q. n (omega arith)) ∙ e.starts;
      }

-- The entries from i on are written.
pub record Filling (image before table : List ℕ) (start i : ℕ) : Type 0 where
  pub upto : i ≤ count_n image
  pub here : start ≡ place_in image i
  pub done : IndexedFrom image table i
  pub kept : drop (index_size image) table ≡ drop (index_size image) before
  pub sized : length table ≡ length before

-- the last entry
pub filling_none : {image before table : List ℕ} {n start : ℕ} → Indexable image before → n ≡ count_n image → start ≡ length image → table ≡ put before n 0 n start → Filling image table table start n
filling_none {image} {before} {table} {n} {start} p e f q =
    let a : Accepted image = accepted image p.passed in
    let s : start ≡ place_in image (count_n image) = omega (arith, a.sizes, a.long) in
    let l : Entry table n 0 n start = rw q (put-here before n 0 n start (omega (arith, p.room))) in
    record {
      upto = omega arith;
      here = s ∙ ap (place_in image) (sym e);
      done = record { room = omega (arith, p.room, ap length q ∙ put-length before n 0 n start); entry = λ j h k. absurd (omega arith); last = rw (e, s) at l };
      kept = refl;
      sized = refl;
    }

-- one entry more, in front
module _ {image before table : List ℕ} {start i : ℕ} (f : Filling image before table start i) (h : 0 < i) where
  step : i - 1 + 1 ≡ i
  step = omega arith

  -- the text of the element in front starts where its length says
  pub filling-start : start ≡ place_in image (i - 1) + size_in image (i - 1)
  filling-start = omega (arith, f.here, rw step at (start-next image (i - 1)))

  -- the table with the entry of the element in front
  abbrev next : List ℕ
  next = put table (i - 1) (kind_in image (i - 1)) (end_in image (i - 1)) (place_in image (i - 1))

  room : (i - 1) * 3 + 2 < length table
  room = omega (arith, f.upto, f.done.room)

  next-entry : (j : ℕ) → i - 1 ≤ j → j < count_n image → Dec (j ≡ i - 1) → Entry next j (kind_in image j) (end_in image j) (place_in image j)
  next-entry j a b (yes d) = rw d (put-here table (i - 1) _ _ _ room)
  next-entry j a b (no d) = put_other table (i - 1) _ _ _ d (f.done.entry j (omega arith) b)

  next-filling : Filling image before next (place_in image (i - 1)) (i - 1)
  next-filling =
      let l : length next ≡ length table = put-length table (i - 1) _ _ _ in
      record {
        upto = omega (arith, f.upto);
        here = refl;
        done = record {
          room = omega (arith, l, f.done.room);
          entry = λ j a b. next-entry j a b (ℕ_discrete j (i - 1));
          last = put_other table (i - 1) _ _ _ (λ z. omega (arith, f.upto)) f.done.last;
        };
        kept = put-drop table (i - 1) _ _ _ (index_size image) (omega (arith, f.upto)) ∙ f.kept;
        sized = l ∙ f.sized;
      }

  pub filling-more : {size kind end : ℕ} {after : List ℕ} → size ≡ size_in image (i - 1) → kind ≡ kind_in image (i - 1) → end ≡ end_in image (i - 1)
      → after ≡ put table (i - 1) kind end (start - size) → Filling image before after (start - size) (i - 1)
  filling-more {size} p q r e =
      let s : start - size ≡ place_in image (i - 1) = omega (arith, filling-start, p) in
      rw (e, q, r, s) next-filling
