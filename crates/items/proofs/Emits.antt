-- What a function that emits one item shows.
use mathlib.Core.Path.{◌≡◌, refl, ap, sym, ◌∙◌}
use mathlib.Core.Bool.{Bool, true, false, cond, false≢true}
use mathlib.Core.List.{List, [], ◌∷◌, append-nil}
use Prim.Native.Nat.{ℕ, zero, suc, ◌≤◌, ◌<◌, ◌*◌, ◌^◌}
use lib.Dec.{eqb}
use borrow.Author.Tests.{eqb-true, eqb-false}
use Rattle.text.proofs.Lists.{and_true}
use native.Mathlib.Omega.{arith}
use lib.ListN.{length}
use lib.Seq.{length-sets}
use Rattle.std.specs.Borrow.{MutBor}
use Rattle.std.specs.Prelude.{Option, Some, None, is_some}
use Rattle.items.specs.declared.Entry.{Entry}
use Rattle.items.specs.declared.Signal.{Signal}
use Rattle.items.specs.declared.Output.{Output}
use Rattle.items.specs.declared.Size.{Size}
use Rattle.items.specs.Item.{Item, text, plain_item, signal, signal_kind}
use Rattle.items.specs.Records.{record_of, bytes_of, words, bytes, record_size}
use Rattle.items.specs.Machine.{State, full, reached, store, all_fit, sized, size_after, Puts, counted, printable, emitted, emit_all, printing, seen, output, outcome, Frame, Says}
use Rattle.items.specs.Entry.{escapes_if, entry_of, plain_entry, store_entry, line_of, RoomAfter, room_for, continued, recorded, Emits}
use Rattle.items.specs.Lines.{record_line, record_lines}
use Rattle.items.specs.Names.{has_number}
use Rattle.items.proofs.Lengths.{line-of}
use Rattle.items.proofs.Laws.{frame-none, frame-both, passed}
use Rattle.items.proofs.Numbers.{room-of, second-full, nowhere, goes_on}

-- ---- what the functions that print one item show

-- an output that is full stays so
pub emits-none : (e : Entry) {o : Output} → o.size ≡ None → Emits e o o
unfolding continued recorded
emits-none e h = record { size = rw h refl; records = rw h refl; texts = refl; frame = frame-none }

-- one that was full is seen as it was
still-seen : {e : Entry} {o a : Output} → Emits e o a → o.size ≡ None → outcome a ≡ outcome o
unfolding continued recorded
still-seen m h = rw (m.size, m.records, m.texts, h) refl

-- what the room for an entry makes of an output
module _ {e : Entry} {o : Output} {p : Size} {r : Option ℕ} (is : r ≡ room_for e p) (k : o.size ≡ Some p) where
  pub emits-full : r ≡ None → Emits e o (output o.records o.texts None)
  emits-full h = let (a, b) = nowhere e p r is o.records.now k h in record { size = a; records = b; texts = refl; frame = record { same_records = refl; same_texts = refl; records_lent = refl; texts_lent = refl } }

  pub emits-more : {l : ℕ} {d : Size} {rs : MutBor (List ℕ)} → r ≡ Some l → d ≡ size_after e.bytes l p → rs.now ≡ store_entry e p o.records.now → rs.ghost_name ≡ o.records.ghost_name
      → Emits e o (output rs o.texts (Some d))
  unfolding store
  emits-more {l} h g w n =
      let (a, b) = goes_on e p r is l h o.records.now k g w in
      let s = length-sets o.records.now (record_size * p.records) (e.kind ∷ e.first ∷ e.second ∷ []) in
      record { size = a; records = b; texts = refl; frame = record { same_records = ap length w ∙ s; same_texts = refl; records_lent = n; texts_lent = refl } }

-- an item is printed where its entry is emitted, and its bytes are stored if its numbers fit
shown : (x : Item) (p : Size) {e : Entry} {o b a : Output} → Emits e o b → e ≡ entry_of p.texts p.listed x → o.size ≡ Some p → a.size ≡ b.size → a.records.now ≡ b.records.now → Frame b a
    → (is_some b.size ≡ false → a.texts.now ≡ o.texts.now) → (is_some b.size ≡ true → a.texts.now ≡ store o.texts.now p.texts (bytes_of x)) → Says (x ∷ []) o a
unfolding printing seen emit_all continued recorded
shown x p {o = o} {b} {a} m i k y z l f g =
    record {
      ran = rw (k, y, z) (go (printable p x) (rw (k, i, line-of x p) at m.size) (rw (k, i, line-of x p) at m.records));
      frame = frame-both m.frame l;
    }
  where
    σ : State
    σ = record { records = o.records.now; texts = o.texts.now; size = p }

    go : (t : Bool) → b.size ≡ cond t (Some (counted p x)) None → b.records.now ≡ cond t (store_entry (entry_of p.texts p.listed x) p o.records.now) o.records.now
        → seen b.records.now a.texts.now b.size ≡ cond t (reached (emitted x σ)) (full o.records.now o.texts.now)
    go true h j = rw (h, j, g (rw h refl)) refl
    go false h j = rw (h, j, f (rw h refl)) refl

-- a text whose length is no u32
pub text-long : (s : List ℕ) {o : Output} {p : Size} → o.size ≡ Some p → 2 ^ 32 ≤ length s → Says (text s ∷ []) o (output o.records o.texts None)
unfolding printing seen emit_all
text-long s {p = p} k h =
    record { ran = rw (k, ← (line-of (text s) p), second-full (entry_of p.texts p.listed (text s)) p h) refl; frame = record { same_records = refl; same_texts = refl; records_lent = refl; texts_lent = refl } }

-- a text that does not fit, and one that does
module _ (s : List ℕ) {p : Size} {e : Entry} {o b : Output} (m : Emits e o b) (i : e ≡ entry_of p.texts p.listed (text s)) (k : o.size ≡ Some p) where
  pub text-full : is_some b.size ≡ false → Says (text s ∷ []) o b
  text-full f = shown (text s) p m i k refl refl frame-none (λ _. m.texts) (λ t. absurd (false≢true (sym f ∙ t)))

  pub text-shown : {ts : MutBor (List ℕ)} → is_some b.size ≡ true → ts.now ≡ store b.texts.now p.texts s → ts.ghost_name ≡ b.texts.ghost_name → Says (text s ∷ []) o (output b.records ts b.size)
  unfolding store
  text-shown {ts = ts} t w n =
      let l : Frame b (output b.records ts b.size) = record { same_records = refl; same_texts = ap length w ∙ length-sets b.texts.now p.texts s; records_lent = refl; texts_lent = n } in
      shown (text s) p m i k refl refl l (λ f. absurd (false≢true (sym f ∙ t))) (λ _. rw m.texts at w)

-- an item with no text has the same entry at any offset, whether it is listed or not
bare-entry : (x : Item) (at : ℕ) (l : Bool) → record_of at x ≡ record_of 0 x → bytes_of x ≡ [] → entry_of at l x ≡ entry_of 0 false x
bare-entry x at l a b = rw (a, b, none l) refl
  where
    none : (l : Bool) → escapes_if l [] ≡ 0
    none true = refl
    none false = refl

-- an item without operands
module _ (x : Signal) {k : ℕ} {e : Entry} {o a : Output} (m : Emits e o a) (j : k ≡ signal_kind x) (i : e ≡ plain_entry k 0 0) where
  signal-at : (p : Option Size) → o.size ≡ p → Says (signal x ∷ []) o a
  unfolding store
  signal-at (Some p) h = shown (signal x) p m (i ∙ rw j (sym (bare-entry (signal x) p.texts p.listed refl refl))) h refl refl frame-none (λ _. m.texts) (λ _. m.texts)
  signal-at None h = record { ran = still-seen m h ∙ (passed (signal x ∷ []) {o = o} h).ran; frame = m.frame }

  pub signal-shown : Says (signal x ∷ []) o a
  signal-shown = signal-at o.size refl

-- ---- items without a text by their kinds

-- What holds of an item without a text by its kind holds of every such kind but the last.
plain-kinds : (P : ℕ → Type 0) → P 2 → P 3 → P 4 → P 5 → P 6 → P 7 → P 8 → P 9 → P 10 → P 11 → P 12 → P 13 → P 14 → P 15 → P 16 → P 17 → (k : ℕ) → 2 ≤ k → k ≤ 17 → P k
plain-kinds P p2 p3 p4 p5 p6 p7 p8 p9 p10 p11 p12 p13 p14 p15 p16 p17 zero h l = absurd (omega arith)
plain-kinds P p2 p3 p4 p5 p6 p7 p8 p9 p10 p11 p12 p13 p14 p15 p16 p17 (suc zero) h l = absurd (omega arith)
plain-kinds P p2 p3 p4 p5 p6 p7 p8 p9 p10 p11 p12 p13 p14 p15 p16 p17 (suc (suc zero)) h l = p2
plain-kinds P p2 p3 p4 p5 p6 p7 p8 p9 p10 p11 p12 p13 p14 p15 p16 p17 (suc (suc (suc zero))) h l = p3
plain-kinds P p2 p3 p4 p5 p6 p7 p8 p9 p10 p11 p12 p13 p14 p15 p16 p17 (suc (suc (suc (suc zero)))) h l = p4
plain-kinds P p2 p3 p4 p5 p6 p7 p8 p9 p10 p11 p12 p13 p14 p15 p16 p17 (suc (suc (suc (suc (suc zero))))) h l = p5
plain-kinds P p2 p3 p4 p5 p6 p7 p8 p9 p10 p11 p12 p13 p14 p15 p16 p17 (suc (suc (suc (suc (suc (suc zero)))))) h l = p6
plain-kinds P p2 p3 p4 p5 p6 p7 p8 p9 p10 p11 p12 p13 p14 p15 p16 p17 (suc (suc (suc (suc (suc (suc (suc zero))))))) h l = p7
plain-kinds P p2 p3 p4 p5 p6 p7 p8 p9 p10 p11 p12 p13 p14 p15 p16 p17 (suc (suc (suc (suc (suc (suc (suc (suc zero)))))))) h l = p8
plain-kinds P p2 p3 p4 p5 p6 p7 p8 p9 p10 p11 p12 p13 p14 p15 p16 p17 (suc (suc (suc (suc (suc (suc (suc (suc (suc zero))))))))) h l = p9
plain-kinds P p2 p3 p4 p5 p6 p7 p8 p9 p10 p11 p12 p13 p14 p15 p16 p17 (suc (suc (suc (suc (suc (suc (suc (suc (suc (suc zero)))))))))) h l = p10
plain-kinds P p2 p3 p4 p5 p6 p7 p8 p9 p10 p11 p12 p13 p14 p15 p16 p17 (suc (suc (suc (suc (suc (suc (suc (suc (suc (suc (suc zero))))))))))) h l = p11
plain-kinds P p2 p3 p4 p5 p6 p7 p8 p9 p10 p11 p12 p13 p14 p15 p16 p17 (suc (suc (suc (suc (suc (suc (suc (suc (suc (suc (suc (suc zero)))))))))))) h l = p12
plain-kinds P p2 p3 p4 p5 p6 p7 p8 p9 p10 p11 p12 p13 p14 p15 p16 p17 (suc (suc (suc (suc (suc (suc (suc (suc (suc (suc (suc (suc (suc zero))))))))))))) h l = p13
plain-kinds P p2 p3 p4 p5 p6 p7 p8 p9 p10 p11 p12 p13 p14 p15 p16 p17 (suc (suc (suc (suc (suc (suc (suc (suc (suc (suc (suc (suc (suc (suc zero)))))))))))))) h l = p14
plain-kinds P p2 p3 p4 p5 p6 p7 p8 p9 p10 p11 p12 p13 p14 p15 p16 p17 (suc (suc (suc (suc (suc (suc (suc (suc (suc (suc (suc (suc (suc (suc (suc zero))))))))))))))) h l = p15
plain-kinds P p2 p3 p4 p5 p6 p7 p8 p9 p10 p11 p12 p13 p14 p15 p16 p17 (suc (suc (suc (suc (suc (suc (suc (suc (suc (suc (suc (suc (suc (suc (suc (suc zero)))))))))))))))) h l = p16
plain-kinds P p2 p3 p4 p5 p6 p7 p8 p9 p10 p11 p12 p13 p14 p15 p16 p17 (suc (suc (suc (suc (suc (suc (suc (suc (suc (suc (suc (suc (suc (suc (suc (suc (suc zero))))))))))))))))) h l = p17
plain-kinds P p2 p3 p4 p5 p6 p7 p8 p9 p10 p11 p12 p13 p14 p15 p16 p17 (suc (suc (suc (suc (suc (suc (suc (suc (suc (suc (suc (suc (suc (suc (suc (suc (suc (suc k)))))))))))))))))) h l = absurd (omega arith)

-- an item's record by its kind and its number, whether the kind has one
pub plain_entry_lem : (k n : ℕ) → 2 ≤ k → k ≤ 18 → (k ≡ 18 → ⊥) → {b : Bool} → b ≡ has_number k → plain_entry k (cond b n 0) 0 ≡ entry_of 0 false (plain_item k n)
unfolding plain_item
plain_entry_lem k n h l q d =
    rw d
    (plain-kinds (λ k. plain_entry k (cond (has_number k) n 0) 0 ≡ entry_of 0 false (plain_item k n))
    refl refl refl refl refl refl refl refl refl refl refl refl refl refl refl refl k h (omega (arith, l, q)))

pub lines-plain : (k n : ℕ) → k ≡ 18 → plain_entry 15 1 n ≡ entry_of 0 false (plain_item k n)
unfolding plain_item
lines-plain k n h = rw h refl

-- an item without a text has no text, whatever stands before it
plain-bare : (k n : ℕ) → (at : ℕ) → 2 ≤ k → k ≤ 18 → (record_of at (plain_item k n) ≡ record_of 0 (plain_item k n)) × (bytes_of (plain_item k n) ≡ [])
unfolding plain_item
plain-bare k n at h l = go (eqb k 18) refl
  where
    Bare : ℕ → Type 0
    Bare k = (record_of at (plain_item k n) ≡ record_of 0 (plain_item k n)) × (bytes_of (plain_item k n) ≡ [])

    go : (b : Bool) → eqb k 18 ≡ b → Bare k
    go true e = rw (eqb-true k 18 e) (refl, refl)
    go false e = plain-kinds Bare (refl, refl) (refl, refl) (refl, refl) (refl, refl) (refl, refl) (refl, refl) (refl, refl) (refl, refl) (refl, refl) (refl, refl) (refl, refl) (refl, refl) (refl, refl) (refl, refl) (refl, refl) (refl, refl) k h (omega (arith, l, eqb-false k 18 e))

-- ---- items that are put where their numbers fit

-- where records are not listed, no escape and no line is counted
module _ (p : Size) (h : p.listed ≡ false) where
  pub unlisted : (x : Item) {e : Entry} → e ≡ entry_of p.texts false x → e ≡ entry_of p.texts p.listed x
  unlisted x i = rw h i

  pub uncounted : (e : Entry) → 0 ≡ line_of e p
  uncounted e = rw h refl

-- the entry of an item without a text, by its kind
pub plain-is : (k n : ℕ) → 2 ≤ k → k ≤ 18 → (p : Size) {e : Entry} → e ≡ entry_of 0 false (plain_item k n) → e ≡ entry_of p.texts p.listed (plain_item k n)
plain-is k n h l p i = let (a, b) = plain-bare k n p.texts h l in i ∙ sym (bare-entry (plain_item k n) p.texts p.listed a b)

-- such an item changes no text
pub plain-texts : (k n : ℕ) → 2 ≤ k → k ≤ 18 → (ts : List ℕ) (at : ℕ) → ts ≡ store ts at (bytes_of (plain_item k n))
unfolding store
plain-texts k n h l ts at = rw (plain-bare k n 0 h l).1 refl

-- where an item's numbers fit, so does its second operand, and there is room for it
fitted : (x : Item) (p : Size) → all_fit (x ∷ []) p ≡ true → let e = entry_of p.texts p.listed x in (e.second < 2 ^ 32) × RoomAfter e.bytes (line_of e p) p
unfolding all_fit
fitted x p h = room-of (entry_of p.texts p.listed x) p (rw (← (line-of x p)) at (and_true (printable p x) true h).0)

-- a text has a length that fits
pub text-short : (s : List ℕ) (p : Size) → all_fit (text s ∷ []) p ≡ true → length s < 2 ^ 32
text-short s p h = (fitted (text s) p h).0

module _ (x : Item) (p : Size) {e : Entry} (i : e ≡ entry_of p.texts p.listed x) {n : ℕ} (c : n ≡ line_of e p) where
  -- there is room for an item whose numbers fit
  pub one-fits : all_fit (x ∷ []) p ≡ true → RoomAfter e.bytes n p
  one-fits h = rw (c, i) (fitted x p h).1

  -- the size after it
  pub one-sized : {d : Size} → d ≡ size_after e.bytes n p → d ≡ sized (x ∷ []) p
  unfolding bytes record_lines
  one-sized j = j ∙ rw (c, i, line-of x p, append-nil (bytes_of x), append-nil (record_line p.records x)) refl

  -- its record stands behind the others
  pub one-put :
      {rs ts rs' ts' : List ℕ} {d : Size} → rs' ≡ store_entry e p rs → ts' ≡ store ts p.texts (bytes_of x) → d ≡ size_after e.bytes n p → Puts (x ∷ []) rs ts p rs' ts' d
  unfolding words bytes
  one-put k l j = record { records = rw i at k; texts = l ∙ rw (append-nil (bytes_of x)) refl; size = one-sized j }
