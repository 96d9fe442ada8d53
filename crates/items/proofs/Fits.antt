-- Items whose numbers fit, put behind others, and what a printer of such items leaves.
use mathlib.Core.Path.{◌≡◌, refl, sym, ap, ◌∙◌}
use mathlib.Core.Bool.{Bool, true, false, cond}
use mathlib.Core.List.{List, [], ◌∷◌, ◌++◌, append_assoc, append-nil}
use Prim.Native.Nat.{ℕ, suc, ◌+◌, ◌*◌, ◌≤◌, ◌<◌, ◌^◌}
use native.Mathlib.Omega.{arith}
use native.Mathlib.Nat.{add-zero, zero-add}
use native.Mathlib.Numerals.{add-one}
use lib.ListN.{length, set, length-append}
use lib.Seq.{sets-eq}
use borrow.Author.Tests.{lt-ltb, ltb-true}
use Rattle.text.specs.Basic.{all, All, ∅, ◌▹◌}
use Rattle.std.specs.Prelude.{Some, None}
use Rattle.items.specs.declared.Output.{Output}
use Rattle.items.specs.declared.Size.{Size}
use Rattle.items.specs.Item.{always, lines, Item, signal, text, mark, run_end, again, if_test, Out, stop, ok, run as opening}
use Rattle.items.specs.Lines.{record_line, record_lines}
use Rattle.items.specs.Records.{record_of, bytes_of, words, bytes, overlaid, record_size}
use Rattle.items.specs.Machine.{State, store, counted, fit, printable, all_fit, sized, no_size, Puts, emitted, emit_all, full, reached, printing, seen, Says}
use Rattle.text.proofs.Lists.{and_true}
use Rattle.items.proofs.Decoding.{words-length}

-- the items that a printing gives, all of them or until it stops
abbrev pub items_of : Out → List Item
items_of (stop xs e) = xs
items_of (ok xs k) = xs

-- ---- stores

-- one store after another stores both
pub store-append : (us vs buffer : List ℕ) (at : ℕ) → store (store buffer at us) (at + length us) vs ≡ store buffer at (us ++ vs)
unfolding store
store-append [] vs buffer at = rw (add-zero at)
store-append (u ∷ us) vs buffer at =
    let n : at + suc (length us) ≡ suc at + length us = omega arith in
    rw n (store-append us vs (set buffer at u) (suc at))

-- what is stored from the start of a buffer with room lies over it
pub store-overlaid : (vs buffer : List ℕ) → length vs ≤ length buffer → store buffer 0 vs ≡ overlaid vs buffer
unfolding store
store-overlaid vs buffer h = rw (zero-add (length vs)) at (sets-eq vs buffer 0 (rw (zero-add (length vs)) h))

-- ---- numbers that fit

-- the numbers that an item's record holds, but for a text's offset, are u32s
abbrev pub Short : Item → Type 0
Short x = ((record_of 0 x).first < 2 ^ 32) × ((record_of 0 x).second < 2 ^ 32)

-- The items can all be printed: the numbers that they name and their sizes are u32s.
pub record Fits (xs : List Item) : Type 0 where
  pub operands : All Short xs
  pub records : length xs < 2 ^ 32
  pub texts : length (bytes xs) < 2 ^ 32
  pub lines : length (record_lines 0 xs) < 2 ^ 32

pub fit_true : {ns : List ℕ} → All (λ n. n < 2 ^ 32) ns → fit ns ≡ true
unfolding fit all
fit_true ∅ = refl
fit_true (◌▹◌ {x = n} h p) = rw (lt-ltb n (2 ^ 32) h, fit_true p)

-- numbers that are tested to fit are below the limit
pub fits_below : (ns : List ℕ) → fit ns ≡ true → All (λ m. m < 2 ^ 32) ns
unfolding fit all
fits_below [] h = ∅
fits_below (n ∷ ns) h = let (a, s) = and_true _ _ h in ltb-true n (2 ^ 32) a ▹ fits_below ns s

-- the operands fit at any offset that fits
short_at : (at : ℕ) (x : Item) → at < 2 ^ 32 → Short x → ((record_of at x).first < 2 ^ 32) × ((record_of at x).second < 2 ^ 32)
short_at at (text s) h k = (h, k.1)
short_at at (signal s) h k = k
short_at at (mark n) h k = k
short_at at (opening n) h k = k
short_at at (run_end n) h k = k
short_at at (again n) h k = k
short_at at (if_test always) h k = k
short_at at (if_test (lines n)) h k = k

-- what is counted of a line is at most its length
pub counted-most : (l : Bool) (n : ℕ) → cond l n 0 ≤ n
counted-most true n = omega arith
counted-most false n = omega arith

all-fit :
    (xs : List Item) (p : Size) → All Short xs → p.records + length xs < 2 ^ 32 → p.texts + length (bytes xs) < 2 ^ 32
    → p.lines + length (record_lines p.records xs) < 2 ^ 32 → all_fit xs p ≡ true
unfolding all_fit bytes record_lines
all-fit [] p ∅ h₁ h₂ h₃ = refl
all-fit (x ∷ xs) p (k ▹ q) h₁ h₂ h₃ =
    let e = length-append (bytes_of x) (bytes xs) in
    let l = length-append (record_line p.records x) (record_lines (suc p.records) xs) in
    let m = counted-most p.listed (length (record_line p.records x)) in
    let s = short_at p.texts x (omega arith) k in
    let f : printable p x ≡ true = fit_true (s.0 ▹ s.1 ▹ omega arith ▹ omega arith ▹ omega arith ▹ ∅) in
    rw f (all-fit xs (counted p x) q (omega arith) (omega arith) (rw (add-one p.records) (omega arith)))

-- from the start
pub fits-start : (xs : List Item) (l : Bool) → Fits xs → all_fit xs (no_size l) ≡ true
fits-start xs l f =
    all-fit xs (no_size l) f.operands (rw (zero-add (length xs)) f.records) (rw (zero-add (length (bytes xs))) f.texts)
    (rw (zero-add (length (record_lines 0 xs))) f.lines)

-- ---- items put behind others

words_append : (at : ℕ) (xs ys : List Item) → words at (xs ++ ys) ≡ words at xs ++ words (at + length (bytes xs)) ys
unfolding words bytes
words_append at [] ys = rw (add-zero at)
words_append at (x ∷ xs) ys =
    let e : at + length (bytes_of x) + length (bytes xs) ≡ at + length (bytes_of x ++ bytes xs) = rw (length-append (bytes_of x) (bytes xs)) (omega arith) in
    rw (words_append (at + length (bytes_of x)) xs ys, e)

pub bytes-append : (xs ys : List Item) → bytes (xs ++ ys) ≡ bytes xs ++ bytes ys
unfolding bytes
bytes-append [] ys = refl
bytes-append (x ∷ xs) ys = rw (bytes-append xs ys, append_assoc (bytes_of x) (bytes xs) (bytes ys))

lines-append : (n : ℕ) (xs ys : List Item) → record_lines n (xs ++ ys) ≡ record_lines n xs ++ record_lines (n + length xs) ys
unfolding record_lines
lines-append n [] ys = rw (add-zero n)
lines-append n (x ∷ xs) ys =
    let e : suc n + length xs ≡ n + suc (length xs) = omega arith in
    rw (lines-append (suc n) xs ys, e, append_assoc (record_line n x) (record_lines (suc n) xs) (record_lines (n + suc (length xs)) ys))

-- the size after some items, and then others
pub sized-append : (xs ys : List Item) (p : Size) → sized ys (sized xs p) ≡ sized (xs ++ ys) p
sized-append xs ys p =
    let a : p.records + length xs + length ys ≡ p.records + length (xs ++ ys) = rw (length-append xs ys) (omega arith) in
    let b : p.texts + length (bytes xs) + length (bytes ys) ≡ p.texts + length (bytes (xs ++ ys)) = rw (bytes-append xs ys, length-append (bytes xs) (bytes ys)) (omega arith) in
    rw (a, b, go p.listed)
  where
    go : (l : Bool) → p.lines + cond l (length (record_lines p.records xs)) 0 + cond l (length (record_lines (p.records + length xs) ys)) 0 ≡ p.lines + cond l (length (record_lines p.records (xs ++ ys))) 0
    go true = rw (lines-append p.records xs ys, length-append (record_lines p.records xs) (record_lines (p.records + length xs) ys)) (omega arith)
    go false = omega arith

pub sized-none : (p : Size) → p ≡ sized [] p
unfolding bytes record_lines
sized-none p = let e : p.lines + cond p.listed 0 0 ≡ p.lines = go p.listed in rw (add-zero p.records, add-zero p.texts, e) refl
  where
    go : (l : Bool) → p.lines + cond l 0 0 ≡ p.lines
    go true = add-zero p.lines
    go false = add-zero p.lines

-- the size after one item
counted-one : (x : Item) (p : Size) → counted p x ≡ sized (x ∷ []) p
unfolding bytes record_lines
counted-one x p = rw (append-nil (bytes_of x), append-nil (record_line p.records x)) refl

sized-cons : (x : Item) (xs : List Item) (p : Size) → sized xs (counted p x) ≡ sized (x ∷ xs) p
sized-cons x xs p = ap (sized xs) (counted-one x p) ∙ sized-append (x ∷ []) xs p

-- some items, and then others
pub puts-append :
    {xs ys : List Item} {rs ts rs' ts' rs'' ts'' : List ℕ} {p d e : Size} → Puts xs rs ts p rs' ts' d → Puts ys rs' ts' d rs'' ts'' e → Puts (xs ++ ys) rs ts p rs'' ts'' e
puts-append {xs} {ys} {rs} {ts} {p = p} h k =
    let n : record_size * (p.records + length xs) ≡ record_size * p.records + length (words p.texts xs) = rw (words-length p.texts xs) (omega arith) in
    record {
      records = k.records ∙ rw (h.records, h.size, n, words_append p.texts xs ys) (store-append (words p.texts xs) (words (p.texts + length (bytes xs)) ys) rs (record_size * p.records));
      texts = k.texts ∙ rw (h.texts, h.size, bytes-append xs ys) (store-append (bytes xs) (bytes ys) ts p.texts);
      size = k.size ∙ ap (sized ys) h.size ∙ sized-append xs ys p;
    }

pub puts_none : (rs ts : List ℕ) (p : Size) → Puts [] rs ts p rs ts p
unfolding store words bytes
puts_none rs ts p = record { records = refl; texts = refl; size = sized-none p }

-- items that fit behind others
pub fit_append : (xs ys : List Item) (p : Size) → all_fit (xs ++ ys) p ≡ true → (all_fit xs p ≡ true) × (all_fit ys (sized xs p) ≡ true)
unfolding all_fit
fit_append [] ys p h = (refl, rw (← (sized-none p)) h)
fit_append (x ∷ xs) ys p h =
    let (a, b) = and_true (printable p x) _ h in
    let (r, s) = fit_append xs ys (counted p x) b in
    (rw (a, r) refl, sym (ap (all_fit ys) (sized-cons x xs p)) ∙ s)

-- ---- a printer of items that fit

-- the state after all items
abbrev all_emitted : List Item → State → State
all_emitted xs σ =
    let p = σ.size in
    record { records = store σ.records (record_size * p.records) (words p.texts xs); texts = store σ.texts p.texts (bytes xs); size = sized xs p }

all_emitted-nil : (σ : State) → σ ≡ all_emitted [] σ
unfolding store words bytes
all_emitted-nil σ = ap (λ (p : Size). record { records = σ.records; texts = σ.texts; size = p }) (sized-none σ.size)

all_emitted-cons : (x : Item) (xs : List Item) (σ : State) → all_emitted xs (emitted x σ) ≡ all_emitted (x ∷ xs) σ
unfolding words bytes
all_emitted-cons x xs σ =
    let p = σ.size in
    let r = record_of p.texts x in
    let n : record_size * (p.records + 1) ≡ record_size * p.records + length (r.kind ∷ r.first ∷ r.second ∷ []) = omega arith in
    rw (sized-cons x xs p, n, store-append (r.kind ∷ r.first ∷ r.second ∷ []) (words (p.texts + length (bytes_of x)) xs) σ.records (record_size * p.records), store-append (bytes_of x) (bytes xs) σ.texts p.texts) refl

-- items whose numbers fit are all printed
all-emitted : (xs : List Item) (σ : State) → all_fit xs σ.size ≡ true → emit_all xs σ ≡ reached (all_emitted xs σ)
unfolding emit_all all_fit
all-emitted [] σ h = ap reached (all_emitted-nil σ)
all-emitted (x ∷ xs) σ h =
    let (a, b) = and_true (printable σ.size x) _ h in
    rw a (all-emitted xs (emitted x σ) b ∙ ap reached (all_emitted-cons x xs σ))

module _ (xs : List Item) {z : Size} {o a : Output} (f : all_fit xs z ≡ true) (i : o.size ≡ Some z) (h : Says xs o a) where
  abbrev from : State
  from = record { records = o.records.now; texts = o.texts.now; size = z }

  said_all : seen a.records.now a.texts.now a.size ≡ reached (all_emitted xs from)
  unfolding printing seen
  said_all = rw i at h.ran ∙ all-emitted xs from f

  -- it puts them
  pub said-puts : {d : Size} → a.size ≡ Some d → Puts xs o.records.now o.texts.now z a.records.now a.texts.now d
  unfolding seen
  said-puts {d} j =
      let k : reached (record { records = a.records.now; texts = a.texts.now; size = d }) ≡ reached (all_emitted xs from) = rw j at said_all in
      let q : record { records = a.records.now; texts = a.texts.now; size = d } ≡ all_emitted xs from = cc in
      record { records = ap State.records q; texts = ap State.texts q; size = ap State.size q }

  -- it comes to its end
  pub said-done : a.size ≡ None → ⊥
  unfolding seen
  said-done j = let k : full a.records.now a.texts.now ≡ reached (all_emitted xs from) = rw j at said_all in let z : ◌≡◌ {A = ℕ} 0 1 = cc in omega arith
