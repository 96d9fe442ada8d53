-- A listing is read back, so equal listings are of equal items.
use mathlib.Core.Path.{◌≡◌, refl, ap, sym, ◌∙◌}
use mathlib.Core.Bool.{Bool, true, false}
use mathlib.Core.List.{List, [], ◌∷◌, ◌++◌, append_assoc, append-nil}
use Prim.Native.Nat.{ℕ, zero, suc, ◌+◌, ◌*◌, ◌-◌, ◌/◌, ◌%◌, ◌≤◌, ◌<◌}
use native.Mathlib.Omega.{arith}
use lib.Dec.{leb, ltb, eqb}
use lib.ListN.{length, take, drop, length-append}
use Rattle.std.proofs.lemmas.List.{take-append-drop}
use lib.Seq.{take-append-le}
use borrow.Author.Tests.{leb-true, ltb-true, ltb-false, ne_eqb}
use Rattle.std.proofs.Common.{tests}
use Rattle.text.specs.Basic.{ascii, same_bytes, count, All, ∅, ◌▹◌, all}
use Rattle.text.proofs.BlankLines.{some-line}
use Rattle.text.proofs.Lists.{count-append, all_append, and_true}
use Rattle.text.specs.Text.{lines as lines_of}
use Rattle.items.specs.declared.Count.{Count}
use Rattle.items.specs.declared.Signal.{Signal}
use Rattle.items.specs.declared.Signal.TheVariants.{NewLine, SpaceOrNewLine, Tab, StartIndent, FinishIndent, StartGroup, FinishGroup, StartBlock, FinishBlock, Else, EndIf}
use Rattle.items.specs.Item.{always, lines, Item, signal, text, mark, run, run_end, again, if_test, plain_item}
use Rattle.items.specs.Lines.{decimal, field, is_escaped, escaped_byte, escaped, kind_names, described, record_line, record_lines}
use Rattle.items.specs.Records.{words, bytes, counts_of}
use Rattle.items.proofs.Decimals.{one-digit, last-digit}
use Rattle.items.proofs.Escapes.{byte-octal, byte-itself}
use Rattle.listing.specs.Listing.{head_line, listing}
use Rattle.listing.specs.Unlisted.{word, behind, value_from, number, octal_value, unescaped, name_number, read_item, read_lines, unlisted}

-- ---- bytes

-- Every byte is at least m.
abbrev Above : ℕ → List ℕ → Type 0
Above m s = All (λ b. m ≤ b) s

above_le : {m n : ℕ} {s : List ℕ} → m ≤ n → Above n s → Above m s
above_le h ∅ = ∅
above_le {m} {n} h (◌▹◌ {x} k p) = let l : m ≤ x = omega arith in l ▹ above_le h p

-- bytes that are known, by one computed test
tested : (m : ℕ) (s : List ℕ) → all (leb m) s ≡ true → Above m s
unfolding all
tested m [] h = ∅
tested m (b ∷ s) h = let (x, y) = and_true (leb m b) (all (leb m) s) h in leb-true m b x ▹ tested m s y

-- bytes, a space and others
spaced : {s t : List ℕ} → Above 32 s → Above 32 t → Above 32 (s ++ (32 ∷ t))
spaced p q = let k : 32 ≤ 32 = omega arith in all_append p (k ▹ q)

-- ---- texts

-- What the test of a byte says of its number.
module _ (b : ℕ) where
  -- one that is escaped has three octal digits
  escaped-small : is_escaped b ≡ true → b < 128
  escaped-small h = search (tests, arith)

  -- any other is no backslash, and no control character
  plain-is : is_escaped b ≡ false → (32 ≤ b) × (eqb b 92 ≡ false)
  plain-is h = search (tests, arith)

octal-value : (b : ℕ) (s : List ℕ) → b < 128 → octal_value ((48 + b / 64) ∷ (48 + b / 8 % 8) ∷ (48 + b % 8) ∷ s) ≡ b
octal-value b s h = omega (arith, h)

-- a byte is read back, and then what follows it
byte-back : (b n : ℕ) (s : List ℕ) → unescaped (suc n) (escaped_byte b ++ s) ≡ b ∷ unescaped n s
unfolding unescaped
byte-back b n s = go (is_escaped b) refl
  where
    go : (t : Bool) → is_escaped b ≡ t → unescaped (suc n) (escaped_byte b ++ s) ≡ b ∷ unescaped n s
    go true e = rw (byte-octal b refl e, octal-value b s (escaped-small b e)) refl
    go false e = rw (byte-itself b refl e, (plain-is b e).1) refl

-- so is a text
text-back : (s : List ℕ) → unescaped (length s) (escaped s) ≡ s
unfolding escaped unescaped
text-back [] = refl
text-back (b ∷ s) = byte-back b (length s) (escaped s) ∙ ap (λ (l : List ℕ). b ∷ l) (text-back s)

byte_above : (b : ℕ) → Above 32 (escaped_byte b)
byte_above b = go (is_escaped b) refl
  where
    digit : (n : ℕ) → 32 ≤ 48 + n
    digit n = omega arith

    go : (t : Bool) → is_escaped b ≡ t → Above 32 (escaped_byte b)
    go true e = rw (byte-octal b refl e) (digit 44 ▹ digit (b / 64) ▹ digit (b / 8 % 8) ▹ digit (b % 8) ▹ ∅)
    go false e = rw (byte-itself b refl e) ((plain-is b e).0 ▹ ∅)

-- what lists a text holds no line end
escaped-above : (s : List ℕ) → Above 32 (escaped s)
unfolding escaped
escaped-above [] = ∅
escaped-above (b ∷ s) = all_append (byte_above b) (escaped-above s)

-- ---- numbers

value-append : (n : ℕ) (s : List ℕ) (d : ℕ) → value_from n (s ++ (d ∷ [])) ≡ value_from n s * 10 + (d - 48)
unfolding value_from
value-append n [] d = refl
value-append n (x ∷ s) d = value-append (n * 10 + (x - 48)) s d

-- What holds of the decimal digits of n: they are digits, and worth n.
record Digits (n : ℕ) : Type 0 where
  above : Above 48 (decimal n)
  worth : value_from 0 (decimal n) ≡ n

one-back : (n : ℕ) → n < 10 → Digits n
unfolding value_from
one-back n h =
    let e = one-digit n (48 + n) h refl in
    let k : 48 ≤ 48 + n = omega arith in
    record { above = rw e (k ▹ ∅); worth = ap (value_from 0) e ∙ (omega arith) }

more-back : (n : ℕ) → 10 ≤ n → Digits (n / 10) → Digits n
more-back n h r =
    let e = last-digit n (48 + n % 10) h refl in
    let k : 48 ≤ 48 + n % 10 = omega arith in
    record { above = rw e (all_append r.above (k ▹ ∅)); worth = ap (value_from 0) e ∙ value-append 0 (decimal (n / 10)) (48 + n % 10) ∙ rw r.worth (omega arith) }

digits-upto : (f n : ℕ) → n ≤ f → Digits n
digits-upto zero n h = one-back n (omega arith)
digits-upto (suc f) n h = go (ltb n 10) refl (digits-upto f (n / 10))
  where
    go : (t : Bool) → ltb n 10 ≡ t → (n / 10 ≤ f → Digits (n / 10)) → Digits n
    go true e r = one-back n (ltb-true n 10 e)
    go false e r = let l = ltb-false n 10 e in more-back n l (r (omega arith))

digits : (n : ℕ) → Digits n
digits n = digits-upto n n (omega arith)

decimal-above : (m n : ℕ) → m ≤ 48 → Above m (decimal n)
decimal-above m n h = above_le h (digits n).above

-- ---- fields

-- A field has ended: nothing follows, or a space.
data Ended : List ℕ → Type 0 where
  over : Ended []
  space : (r : List ℕ) → Ended (32 ∷ r)

word_is : {s r : List ℕ} → Above 33 s → Ended r → word (s ++ r) ≡ s
unfolding word
word_is ∅ over = refl
word_is ∅ (space r) = refl
word_is (◌▹◌ {x} {xs} h p) e = rw (ne_eqb x 32 (λ k. absurd (omega arith)), word_is p e) refl

behind_is : {s : List ℕ} (r : List ℕ) → Above 33 s → behind (s ++ (32 ∷ r)) ≡ r
unfolding behind
behind_is r ∅ = refl
behind_is r (◌▹◌ {x} {xs} h p) = rw (ne_eqb x 32 (λ k. absurd (omega arith))) (behind_is r p)

-- a number is read back
number_is : (n : ℕ) {r : List ℕ} → Ended r → number (decimal n ++ r) ≡ n
number_is n e = ap (value_from 0) (word_is (decimal-above 33 n (omega arith)) e) ∙ (digits n).worth

number-last : (n : ℕ) → number (decimal n) ≡ n
number-last n = ap number (sym (append-nil (decimal n))) ∙ number_is n over

-- ---- items

-- Its line is read back, and holds no line end.
record Back (x : Item) : Type 0 where
  told : read_item (described x) ≡ x
  above : Above 32 (described x)

-- an item that a name lists alone, by two computed tests
alone : (x : Item) → read_item (described x) ≡ x → all (leb 32) (described x) ≡ true → Back x
alone x e h = record { told = e; above = tested 32 (described x) h }

field-above : (s : List ℕ) (n : ℕ) → all (leb 32) s ≡ true → Above 32 (s ++ (32 ∷ decimal n))
field-above s n h = spaced (tested 32 s h) (decimal-above 32 n (omega arith))

-- one that a name and a number list
numbered : (f : ℕ → Item) (s : List ℕ) (n : ℕ) → described (f n) ≡ s ++ (32 ∷ decimal n) → read_item (s ++ (32 ∷ decimal n)) ≡ f (number (decimal n)) → all (leb 32) s ≡ true → Back (f n)
numbered f s n d e h = record { told = ap read_item d ∙ e ∙ ap f (number-last n); above = rw d (field-above s n h) }

signal-back : (s : Signal) → Back (signal s)
unfolding word behind value_from read_item same_bytes name_number described kind_names plain_item all
signal-back NewLine = alone (signal NewLine) refl refl
signal-back SpaceOrNewLine = alone (signal SpaceOrNewLine) refl refl
signal-back Tab = alone (signal Tab) refl refl
signal-back StartIndent = alone (signal StartIndent) refl refl
signal-back FinishIndent = alone (signal FinishIndent) refl refl
signal-back StartGroup = alone (signal StartGroup) refl refl
signal-back FinishGroup = alone (signal FinishGroup) refl refl
signal-back StartBlock = alone (signal StartBlock) refl refl
signal-back FinishBlock = alone (signal FinishBlock) refl refl
signal-back Else = alone (signal Else) refl refl
signal-back EndIf = alone (signal EndIf) refl refl

item_back : (x : Item) → Back x
unfolding word behind read_item same_bytes name_number described kind_names plain_item all
item_back (text s) =
    let n = length s in
    record {
      told = rw (number_is n (space (escaped s)), behind_is (escaped s) (decimal-above 33 n (omega arith)), text-back s) refl;
      above = spaced (field-above (ascii "text") n refl) (escaped-above s);
    }
item_back (signal s) = signal-back s
item_back (mark n) = numbered mark (ascii "mark") n refl refl refl
item_back (run n) = numbered run (ascii "run") n refl refl refl
item_back (run_end n) = numbered run_end (ascii "run-end") n refl refl refl
item_back (again n) = numbered again (ascii "again") n refl refl refl
item_back (if_test always) = alone (if_test always) refl refl
item_back (if_test (lines n)) = numbered (λ k. if_test (lines k)) (ascii "if lines") n refl refl refl

-- ---- lines

-- a line is parted off at its LF
line_is : {l : List ℕ} (r : List ℕ) → Above 32 l → lines_of (l ++ (10 ∷ r)) ≡ l ∷ lines_of r
unfolding lines_of
line_is r ∅ = refl
line_is r (◌▹◌ {x} {xs} h p) = rw (ne_eqb x 10 (λ k. absurd (omega arith)), line_is r p) refl

lines_step : (l s : List ℕ) → read_lines (l ∷ lines_of s) ≡ read_item (behind l) ∷ read_lines (lines_of s)
unfolding read_lines
lines_step l s = let (m, ls, e) = some-line s in rw e refl

-- the line of an item without its LF
abbrev body : ℕ → Item → List ℕ
body n x = decimal n ++ (32 ∷ described x)

body-above : (n : ℕ) (x : Item) → Above 32 (body n x)
body-above n x = spaced (decimal-above 32 n (omega arith)) (item_back x).above

body-ends : (n : ℕ) (x : Item) (r : List ℕ) → record_line n x ++ r ≡ body n x ++ (10 ∷ r)
body-ends n x r = simp append_assoc

lines-back : (n : ℕ) (xs : List Item) → read_lines (lines_of (record_lines n xs)) ≡ xs
unfolding record_lines read_lines lines_of
lines-back n [] = refl
lines-back n (x ∷ xs) =
    let r = record_lines (suc n) xs in
    ap read_lines (ap lines_of (body-ends n x r) ∙ line_is r (body-above n x))
    ∙ lines_step (body n x) r
    ∙ rw (behind_is (described x) (decimal-above 33 n (omega arith)), (item_back x).told, lines-back (suc n) xs) refl

-- bytes from 32 on hold no line end
no-end : {s : List ℕ} → Above 32 s → count 10 s ≡ 0
unfolding count
no-end ∅ = refl
no-end (◌▹◌ {x} h p) = rw (ne_eqb x 10 (λ k. absurd (omega arith))) (no-end p)

-- a line has one
one-end : {l : List ℕ} (r : List ℕ) → Above 32 l → count 10 (l ++ (10 ∷ r)) ≡ suc (count 10 r)
unfolding count
one-end {l} r p = omega (arith, count-append 10 l (10 ∷ r), no-end p)

lines-counted : (n : ℕ) (xs : List Item) → count 10 (record_lines n xs) ≡ length xs
unfolding record_lines count
lines-counted n [] = refl
lines-counted n (x ∷ xs) = let r = record_lines (suc n) xs in ap (count 10) (body-ends n x r) ∙ one-end r (body-above n x) ∙ ap suc (lines-counted (suc n) xs)

-- the first line holds no other line end
four_fields : (a b c d : List ℕ) → a ++ (32 ∷ (b ++ (32 ∷ (c ++ (32 ∷ (d ++ (10 ∷ []))))))) ≡ (a ++ (32 ∷ (b ++ (32 ∷ (c ++ (32 ∷ d)))))) ++ (10 ∷ [])
four_fields a b c d = simp append_assoc

head_line_lem : (c : Count) → (l : List ℕ) × (head_line c ≡ l ++ (10 ∷ [])) × Above 32 l
unfolding head_line all
head_line_lem c = (
  _,
  four_fields (field "records" c.records) (field "texts" c.texts) (field "runs" c.runs) (field "marks" c.marks),
  spaced (field-above (ascii "records") c.records refl) (spaced (field-above (ascii "texts") c.texts refl) (spaced (field-above (ascii "runs") c.runs refl) (field-above (ascii "marks") c.marks refl))),
)

-- a listing is its first line, a line end and the lines of records
parted : (xs : List Item) → (l : List ℕ) × (listing xs ≡ l ++ (10 ∷ record_lines 0 xs)) × Above 32 l
unfolding listing
parted xs =
    let (l, e, p) = head_line_lem (counts_of xs) in
    (l, rw (e, append_assoc l (10 ∷ []) (record_lines 0 xs)) refl, p)

-- ---- listings

-- the items of a listing are read back from it
pub unlisted_is : (xs : List Item) → unlisted (listing xs) ≡ xs
unfolding unlisted
unlisted_is xs = let (l, e, p) = parted xs in rw (e, line_is (record_lines 0 xs) p) (lines-back 0 xs)

-- a listing has a line for each record, whatever its texts hold, and one before them
pub line-each : (xs : List Item) → count 10 (listing xs) ≡ suc (length xs)
line-each xs = let (l, e, p) = parted xs in rw (e, one-end (record_lines 0 xs) p) (ap suc (lines-counted 0 xs))

-- A text ends with LF.
record Closed (s : List ℕ) : Type 0 where
  front : List ℕ
  ends : s ≡ front ++ (10 ∷ [])

closed-append : (s : List ℕ) {t : List ℕ} → Closed t → Closed (s ++ t)
closed-append s c = record { front = s ++ c.front; ends = ap (λ (l : List ℕ). s ++ l) c.ends ∙ sym (append_assoc s c.front (10 ∷ [])) }

lines-closed : (s : List ℕ) → Closed s → (n : ℕ) (xs : List Item) → Closed (s ++ record_lines n xs)
unfolding record_lines
lines-closed s c n [] = rw (append-nil s) c
lines-closed s c n (x ∷ xs) =
    let r = record_line n x in
    let e : Closed r = record { front = body n x; ends = sym (append-nil r) ∙ body-ends n x [] } in
    rw (← (append_assoc s r (record_lines (suc n) xs))) (lines-closed (s ++ r) (closed-append s e) (suc n) xs)

-- a beginning of what stands in front of the last line end has no more line ends than that
count-front : (n : ℕ) (f : List ℕ) → count 10 (take n f) < count 10 (f ++ (10 ∷ []))
unfolding count
count-front n f = omega (arith, count-append 10 f (10 ∷ []), count-append 10 (take n f) (drop n f), ap (count 10) (take-append-drop n f))

-- a listing that was cut short has fewer lines behind its first than that tells records
pub cut_short : (xs : List Item) (n : ℕ) → n < length (listing xs) → count 10 (take n (listing xs)) ≤ length xs
unfolding listing
cut_short xs n h =
    let (l, e, p) = head_line_lem (counts_of xs) in
    let c = lines-closed (head_line (counts_of xs)) (record { front = l; ends = e }) 0 xs in
    let f = c.front in
    let k : n ≤ length f = omega (arith, h, ap length c.ends, length-append f (10 ∷ [])) in
    let t : take n (listing xs) ≡ take n f = ap (take n) c.ends ∙ take-append-le n f (10 ∷ []) k in
    omega (arith, ap (count 10) t, count-front n f, ap (count 10) c.ends, line-each xs)

-- 'Equal listings must then mean equal records and texts', offsets included
pub same-listing : (xs ys : List Item) → listing xs ≡ listing ys → (words 0 xs ≡ words 0 ys) × (bytes xs ≡ bytes ys)
same-listing xs ys h = let e : xs ≡ ys = sym (unlisted_is xs) ∙ ap unlisted h ∙ unlisted_is ys in (ap (words 0) e, ap bytes e)
