-- The lengths of the lines that list records, by the words of a record and by its item.
use mathlib.Core.Path.{◌≡◌, refl, sym, ◌∙◌}
use mathlib.Core.Bool.{Bool, true, false, cond, ◌&&◌}
use mathlib.Core.List.{List, [], ◌∷◌, ◌++◌, map}
use Prim.Native.Nat.{ℕ, suc, ◌+◌, ◌*◌, ◌≤◌, ◌<◌, ◌^◌, zero}
use native.Mathlib.Omega.{arith}
use lib.Dec.{leb, eqb}
use lib.ListN.{length, length-append, get_or}
use borrow.Author.Tests.{leb-true, eq-eqb, ne_eqb}
use Rattle.text.specs.Basic.{ascii, All, ∅, all, ◌▹◌}
use Rattle.text.proofs.Lists.{and_true}
use Rattle.text.specs.Words.{word_in}
use Rattle.std.specs.List.{count_by}
use Rattle.items.specs.Item.{always, lines, Item, signal, text, mark, run, run_end, again, if_test, signal_kind}
use Rattle.items.specs.Lines.{decimal, field, is_escaped, escaped, described, record_line, record_lines, kind_names}
use Rattle.items.proofs.Decimals.{decimal-short}
use Rattle.items.proofs.Escapes.{escaped-length, escaped-short}
use Rattle.items.specs.Names.{name_at, described_length, line_length, names_of, name_lengths, other_names, has_number}
use Rattle.items.specs.Records.{record_of, bytes_of, bytes}
use Rattle.items.proofs.Fits.{Short}
use Rattle.items.proofs.Signals.{plain}
use Rattle.items.specs.declared.Size.{Size}
use Rattle.items.specs.Entry.{escapes_if, entry_of, line_of}
use Rattle.items.specs.declared.names.Table.{Table}
use Rattle.items.specs.declared.names.Table.TheVariants.{Kinds, Others}
use Prim.Native.String.{String}

-- ---- names

length_in : (ns : List String) (w : ℕ) → get_or (map (λ s. length (ascii s)) ns) w 0 ≡ length (ascii (word_in ns w))
length_in [] w = refl
length_in (n ∷ ns) zero = refl
length_in (n ∷ ns) (suc w) = length_in ns w

-- the length of the name with a number, by those of all names
pub length-at : (t : Table) (w : ℕ) → get_or (name_lengths t) w 0 ≡ length (ascii (name_at t w))
unfolding name_at
length-at t w = length_in (names_of t) w

-- names are short: one computed test over each table
shorts : (t : Table) → all (λ n. leb (length (ascii n)) 16) (names_of t) ≡ true
unfolding all kind_names other_names names_of
shorts Kinds = refl
shorts Others = refl

short_in : (ns : List String) (w : ℕ) → all (λ n. leb (length (ascii n)) 16) ns ≡ true → length (ascii (word_in ns w)) ≤ 16
unfolding all
short_in [] w h = omega arith
short_in (n ∷ ns) zero h = leb-true _ 16 (and_true (leb (length (ascii n)) 16) _ h).0
short_in (n ∷ ns) (suc w) h = short_in ns w (and_true (leb (length (ascii n)) 16) _ h).1

pub name-short : (t : Table) (w : ℕ) → length (ascii (name_at t w)) ≤ 16
unfolding name_at
name-short t w = short_in (names_of t) w (shorts t)

-- ---- lines by the words of a record

pub field-short : (t : Table) (w n : ℕ) → n < 2 ^ 32 → length (field (name_at t w) n) ≤ 27
field-short t w n h = omega (arith, name-short t w, decimal-short n h, length-append (ascii (name_at t w)) (32 ∷ decimal n))

pub described-small : (k a b e : ℕ) → a < 2 ^ 32 → b < 2 ^ 32 → described_length k a b e ≤ 32 + b + 3 * e
unfolding described_length
described-small k a b e h i = go (eqb k 1) (eqb k 15 && eqb a 1) (has_number k)
  where
    go : (s t u : Bool) → cond s (length (field (name_at Kinds 1) b) + 1 + b + 3 * e) (cond t (length (field (name_at Others 0) b)) (cond u (length (field (name_at Kinds k) a)) (length (ascii (name_at Kinds k))))) ≤ 32 + b + 3 * e
    go true t u = omega (arith, field-short Kinds 1 b i)
    go false true u = omega (arith, field-short Others 0 b i)
    go false false true = omega (arith, field-short Kinds k a h)
    go false false false = omega (arith, name-short Kinds k)

module _ (k a b e : ℕ) where
  pub text-length : {n : ℕ} → k ≡ 1 → n ≡ length (field (name_at Kinds 1) b) → n + 1 + b + 3 * e ≡ described_length k a b e
  unfolding described_length
  text-length h i = rw (eq-eqb k 1 h, i)

  pub lines-length : (k ≡ 1 → ⊥) → (eqb k 15 && eqb a 1) ≡ true → described_length k a b e ≡ length (field (name_at Others 0) b)
  unfolding described_length
  lines-length h i = rw (ne_eqb k 1 h, i)

  pub number-length : {r : Bool} → (k ≡ 1 → ⊥) → (eqb k 15 && eqb a 1) ≡ false → r ≡ has_number k → r ≡ true → described_length k a b e ≡ length (field (name_at Kinds k) a)
  unfolding described_length
  number-length h i f g = rw (ne_eqb k 1 h, i, sym f ∙ g)

  pub bare-length : {r : Bool} → (k ≡ 1 → ⊥) → (eqb k 15 && eqb a 1) ≡ false → r ≡ has_number k → r ≡ false → described_length k a b e ≡ length (ascii (name_at Kinds k))
  unfolding described_length
  bare-length h i f g = rw (ne_eqb k 1 h, i, sym f ∙ g)

-- ---- lines by items

-- how many bytes of an item's text are escaped
abbrev escapes_of : Item → ℕ
escapes_of x = count_by is_escaped (bytes_of x)

described-length : (at : ℕ) (x : Item) → let r = record_of at x in described_length r.kind r.first r.second (escapes_of x) ≡ length (described x)
unfolding described_length described kind_names other_names names_of name_at
described-length at (text s) = rw (length-append (field "text" (length s)) (32 ∷ escaped s), escaped-length s) (omega arith)
described-length at (signal s) = (plain s).named
described-length at (mark n) = refl
described-length at (run n) = refl
described-length at (run_end n) = refl
described-length at (again n) = refl
described-length at (if_test always) = refl
described-length at (if_test (lines n)) = refl

line-length : (n at : ℕ) (x : Item) → let r = record_of at x in line_length n r.kind r.first r.second (escapes_of x) ≡ length (record_line n x)
line-length n at x = omega (arith, described-length at x, length-append (decimal n) (32 ∷ (described x ++ (10 ∷ []))), length-append (described x) (10 ∷ []))

-- what is counted of an item's line
pub line-of : (x : Item) (p : Size) → line_of (entry_of p.texts p.listed x) p ≡ cond p.listed (length (record_line p.records x)) 0
line-of x p = go p.listed
  where
    go : (l : Bool) → let r = record_of p.texts x in cond l (line_length p.records r.kind r.first r.second (escapes_if l (bytes_of x))) 0 ≡ cond l (length (record_line p.records x)) 0
    go true = line-length p.records p.texts x
    go false = refl

described-short : (x : Item) → Short x → length (described x) ≤ 32 + 4 * length (bytes_of x)
unfolding described names_of
described-short (text s) h = omega (arith, decimal-short (length s) h.1, length-append (field "text" (length s)) (32 ∷ escaped s), escaped-short s)
described-short (signal s) h = omega (arith, short_in kind_names (signal_kind s) (shorts Kinds))
described-short (mark n) h = omega (arith, decimal-short n h.0)
described-short (run n) h = omega (arith, decimal-short n h.0)
described-short (run_end n) h = omega (arith, decimal-short n h.0)
described-short (again n) h = omega (arith, decimal-short n h.0)
described-short (if_test always) h = omega arith
described-short (if_test (lines n)) h = omega (arith, decimal-short n h.1)

-- the lines of items take at most 64 bytes each, and 4 for each byte of their texts
pub lines-short : (n : ℕ) {xs : List Item} → All Short xs → n + length xs ≤ 2 ^ 32 → length (record_lines n xs) ≤ 64 * length xs + 4 * length (bytes xs)
unfolding record_lines bytes
lines-short n ∅ h = omega arith
lines-short n (◌▹◌ {x} {xs} s p) h =
    simp length-append (omega (arith, lines-short (suc n) p (omega arith), described-short x s, decimal-short n (omega arith)))
