-- What is printed, as lists of items.
use mathlib.Core.Path.{◌≡◌, refl, ap, ◌∙◌, sym}
use mathlib.Core.Bool.{Bool, true, false, cond, not, ◌&&◌, ◌||◌, false≢true}
use mathlib.Core.List.{List, [], ◌∷◌, ◌++◌, map, flatten, append_assoc, append-nil}
use Prim.Native.Nat.{ℕ, suc, ◌+◌, ◌-◌, ◌<◌, ◌≤◌}
use native.Mathlib.Omega.{arith}
use native.Mathlib.Numerals.{add-one}
use lib.Dec.{leb, ltb, eqb}
use lib.ListN.{length, take, drop, get_or, length-drop}
use lib.Seq.{take_all}
use borrow.Author.Tests.{eqb-true, eqb-false, ne_eqb, lt-ltb, le-leb, leb-true, leb-false, ltb-true, ltb-false}
use Rattle.text.specs.Basic.{ascii, is_nil, first_or, drop_while, drop_end, starts_with}
use Rattle.text.proofs.BlankLines.{drops_commute, drop_end-twice, blank-lines, kept-lines, first-kept}
use Rattle.text.specs.Text.{lines, line_end, padding, trim_end}
use Rattle.items.specs.Item.{Item, text, newline, tab}
use Rattle.items.specs.declared.Output.{Output}
use Rattle.items.specs.Machine.{Says}
use Rattle.items.proofs.Laws.{unsaid, Going, going_more, going-all}
use Rattle.comments.specs.Comments.{Location, above_item, item_inline, end_of_items, optional, single_line, common, common_padding, block_lines, immediate, unpadded, tabbed, one_line, on_one_line, many_lines, block_of, multi_line, error_items, comment}
use Rattle.comments.specs.Rows.{rows, FirstRow, is_cut}
use Rattle.std.specs.Prelude.{Some, None}
use Rattle.std.specs.List.{position, position_or_len}
use Rattle.comments.proofs.Walks.{row_step, rows_none}

-- items by another name
pub same : {xs ys : List Item} {o a : Output} → xs ≡ ys → Says xs o a → Says ys o a
same e h = rw e at h

-- a text by another name
pub texts : {s t : List ℕ} {o a : Output} → s ≡ t → Says (text s ∷ []) o a → Says (text t ∷ []) o a
texts e h = same (ap (λ (u : List ℕ). text u ∷ []) e) h

pub opt_yes : (b : Bool) (x : Item) {o a : Output} → b ≡ true → Says (x ∷ []) o a → Says (optional b x) o a
opt_yes b x e h = rw e h

pub opt_no : (b : Bool) (x : Item) {o : Output} → b ≡ false → Says (optional b x) o o
opt_no b x e = rw e unsaid

pub pick_first : (b : Bool) (x y : Item) {o a : Output} → b ≡ true → Says (x ∷ []) o a → Says (cond b x y ∷ []) o a
pick_first b x y e h = rw e h

pub pick_second : (b : Bool) (x y : Item) {o a : Output} → b ≡ false → Says (y ∷ []) o a → Says (cond b x y ∷ []) o a
pick_second b x y e h = rw e h

-- a comment to the end of its line, by its rest
pub single-rest : (opening : List ℕ) (loc : Location) {r t : List ℕ} {o a : Output} → r ≡ t → Says (single_line opening r loc) o a → Says (single_line opening t loc) o a
single-rest opening loc e h = rw e at h

-- CUSTOM ERRORS

empty : (t : List ℕ) → length t ≡ 0 → t ≡ []
empty [] h = refl
empty (b ∷ t) h = absurd (omega arith)

no_cut : (x y : Bool) → not (x || y) ≡ true → (x ≡ false) × (y ≡ false)
no_cut true y h = absurd (false≢true h)
no_cut false true h = absurd (false≢true h)
no_cut false false h = (refl, refl)

pieces-cut : (u : List ℕ) (c : ℕ) (r : List ℕ) → is_cut c ≡ true → error_items u (c ∷ r) ≡ text u ∷ cond (eqb c 10) newline tab ∷ error_items [] r
unfolding error_items
pieces-cut u c r h = go (eqb c 10) h
  where
    go : (t : Bool) → (t || eqb c 9) ≡ true → cond t (text u ∷ newline ∷ error_items [] r) (cond (eqb c 9) (text u ∷ tab ∷ error_items [] r) (error_items (u ++ (c ∷ [])) r)) ≡ text u ∷ cond t newline tab ∷ error_items [] r
    go true k = refl
    go false k = rw k

pieces-on : (u : List ℕ) (c : ℕ) (r : List ℕ) → is_cut c ≡ false → error_items u (c ∷ r) ≡ error_items (u ++ (c ∷ [])) r
unfolding error_items
pieces-on u c r h = let (x, y) = no_cut (eqb c 10) (eqb c 9) (ap not h) in rw (x, y)

-- up to the first byte that parts two pieces stands one
first-piece : (d r : List ℕ) → let n = position_or_len is_cut r in n < length r → error_items d r ≡ text (d ++ take n r) ∷ cond (eqb (get_or r n 0) 10) newline tab ∷ error_items [] (drop (suc n) r)
first-piece d [] h = absurd (omega arith)
first-piece d (c ∷ r) h = go (is_cut c) refl (first-piece (d ++ (c ∷ [])) r) h
  where
    m : ℕ
    m = position_or_len is_cut r

    go : (t : Bool) → is_cut c ≡ t
        → (m < length r → error_items (d ++ (c ∷ [])) r ≡ text ((d ++ (c ∷ [])) ++ take m r) ∷ cond (eqb (get_or r m 0) 10) newline tab ∷ error_items [] (drop (suc m) r))
        → let n = cond (not t) (1 + m) 0 in n < suc (length r) → error_items d (c ∷ r) ≡ text (d ++ take n (c ∷ r)) ∷ cond (eqb (get_or (c ∷ r) n 0) 10) newline tab ∷ error_items [] (drop n r)
    go true e f k = rw append-nil (pieces-cut d c r e)
    go false e f k =
        let l : 1 + m ≡ suc m = omega arith in
        rw l (pieces-on d c r e ∙ rw append_assoc at (f (omega arith)))

-- where there is none, all is one
last-piece : (d r : List ℕ) → length r ≤ position_or_len is_cut r → error_items d r ≡ error_items (d ++ r) []
last-piece d [] h = rw append-nil
last-piece d (c ∷ r) h = go (is_cut c) refl (last-piece (d ++ (c ∷ [])) r) h
  where
    m : ℕ
    m = position_or_len is_cut r

    go : (t : Bool) → is_cut c ≡ t → (length r ≤ m → error_items (d ++ (c ∷ [])) r ≡ error_items ((d ++ (c ∷ [])) ++ r) [])
        → suc (length r) ≤ cond (not t) (1 + m) 0 → error_items d (c ∷ r) ≡ error_items (d ++ (c ∷ r)) []
    go true e f k = absurd (omega arith)
    go false e f k = pieces-on d c r e ∙ rw append_assoc at (f (omega arith))

pieces_end : (u : List ℕ) → 0 < length u → error_items u [] ≡ text u ∷ []
unfolding error_items
pieces_end [] h = absurd (omega arith)
pieces_end (b ∷ u) h = refl

uncut : (r : List ℕ) → None ≡ position is_cut r → error_items [] r ≡ error_items r []
uncut r f = go (ltb n (length r)) refl f
  where
    n : ℕ
    n = position_or_len is_cut r

    go : (t : Bool) → ltb n (length r) ≡ t → None ≡ cond t (Some n) None → error_items [] r ≡ error_items r []
    go true q k = let z : ◌≡◌ {A = ℕ} 0 1 = cc in absurd (omega arith)
    go false q k = last-piece [] r (ltb-false n (length r) q)

-- The pieces before r are printed, and there is a byte that parts two pieces in it, or none.
module _ {xs : List Item} {o a : Output} (r : List ℕ) (g : Going xs (error_items [] r) o a) where
  pub pieces-more : {b : Output} (i : ℕ) → Some i ≡ position is_cut r → Says (text (take i r) ∷ cond (eqb (get_or r i 0) 10) newline tab ∷ []) a b
      → Going xs (error_items [] (take (length r - (i + 1)) (drop (i + 1) r))) o b
  pieces-more {b} i f y = go (ltb n (length r)) refl f
    where
      n : ℕ
      n = position_or_len is_cut r

      go : (t : Bool) → ltb n (length r) ≡ t → Some i ≡ cond t (Some n) None → Going xs (error_items [] (take (length r - (i + 1)) (drop (i + 1) r))) o b
      go true q k =
          let e : n ≡ i = cc in
          let m : take (length r - (i + 1)) (drop (i + 1) r) ≡ drop (suc i) r = take_all (length r - (i + 1)) (drop (i + 1) r) (rw length-drop (omega arith)) ∙ rw add-one in
          going_more g (rw m (rw e at (first-piece [] r (ltb-true n (length r) q)))) y
      go false q k = let z : ◌≡◌ {A = ℕ} 0 1 = cc in absurd (omega arith)

  pub pieces-last : {b : Output} → None ≡ position is_cut r → (length r ≡ 0 → ⊥) → Says (text r ∷ []) a b → Says xs o b
  pieces-last f h y = g.rest (same (sym (uncut r f ∙ pieces_end r (omega (arith, h)))) y)

  pub pieces-all : length r ≡ 0 → Says xs o a
  unfolding error_items
  pieces-all h = going-all g (rw (empty r h))

-- TABS

tabbed-tab : (doc : Bool) (r : List ℕ) → 1 ≤ length r → get_or r 0 0 ≡ 9 → tabbed doc r ≡ cond doc (text (ascii "    ")) tab ∷ tabbed doc (take (length r - 1) (drop 1 r))
unfolding tabbed
tabbed-tab doc [] h e = absurd (omega arith)
tabbed-tab doc (b ∷ r) h e = rw (e, take_all (length (b ∷ r) - 1) r (omega arith))

tabbed-stop : (doc : Bool) (r : List ℕ) → (1 ≤ length r → get_or r 0 0 ≡ 9 → ⊥) → text r ∷ [] ≡ tabbed doc r
unfolding tabbed
tabbed-stop doc [] f = refl
tabbed-stop doc (b ∷ r) f = rw (ne_eqb b 9 (f (omega arith)))

-- The tabs before r are printed, and a tab stands first in it, or does not.
module _ (doc : Bool) {xs : List Item} {o a b : Output} (r : List ℕ) (g : Going xs (tabbed doc r) o a) where
  pub tabs_more : 1 ≤ length r → get_or r 0 0 ≡ 9 → Says (cond doc (text (ascii "    ")) tab ∷ []) a b → Going xs (tabbed doc (take (length r - 1) (drop 1 r))) o b
  tabs_more h e y = going_more g (tabbed-tab doc r h e) y

  pub tabs-none : length r < 1 → Says (text r ∷ []) a b → Says xs o b
  tabs-none h y = g.rest (same (tabbed-stop doc r (λ k. absurd (omega (arith, h, k)))) y)

  pub tabs-stop : 1 ≤ length r → (get_or r 0 0 ≡ 9 → ⊥) → Says (text r ∷ []) a b → Says xs o b
  tabs-stop h e y = g.rest (same (tabbed-stop doc r (λ k. e)) y)

-- LINES

pub line-empty : (doc : Bool) (l : List ℕ) → length l ≡ 0 → optional doc (text (ascii " *")) ++ (newline ∷ []) ≡ one_line doc l
unfolding one_line
line-empty doc [] h = refl
line-empty doc (b ∷ l) h = absurd (omega arith)

pub line-full : (doc : Bool) (l : List ℕ) → (length l ≡ 0 → ⊥) → optional doc (text (ascii " *")) ++ (optional doc (text (ascii " ")) ++ (tabbed doc l ++ (newline ∷ []))) ≡ one_line doc l
unfolding one_line
line-full doc [] h = absurd (h refl)
line-full doc (b ∷ l) h = refl

-- lines without their first n bytes
abbrev pub shown : Bool → ℕ → List (List ℕ) → List Item
shown doc n ls = flatten (map (one_line doc) (map (drop n) ls))

-- The lines before j are printed.
pub record Showing (doc : Bool) (n : ℕ) (s : List ℕ) (i : ℕ) (o a : Output) (j : ℕ) : Type 0 where
  pub going : Going (shown doc n (rows s i)) (shown doc n (rows s j)) o a

pub showing_more : {doc : Bool} {n : ℕ} {s : List ℕ} {i : ℕ} {o a b : Output} {j : ℕ} (l m : List ℕ) (k : ℕ) → Showing doc n s i o a j → j ≤ length s
    → l ≡ first_or [] (rows s j) → m ≡ drop n l → Says (one_line doc m) a b → k ≡ suc (line_end s j) → Showing doc n s i o b k
unfolding flatten
showing_more {doc} {n} {s} {i} {o} {a} {b} {j} l m k w h e d y q =
    record { going = going_more w.going (rw (row_step s l j k h e q)) (same (ap (one_line doc) d) y) }

pub showing_all : {doc : Bool} {n : ℕ} {s : List ℕ} {i : ℕ} {o a : Output} {j : ℕ} → Showing doc n s i o a j → length s < j → Says (shown doc n (rows s i)) o a
unfolding flatten
showing_all {s} {j} w h = going-all w.going (rw (rows_none s j h))

-- a comment that does not begin beside its opening
pub below : (doc : Bool) (s l : List ℕ) (j n : ℕ) → l ≡ first_or [] (rows s 0) → j ≡ suc (line_end s 0) → n ≡ length (common (padding l l) (rows s j))
    → shown doc n (rows s 0) ≡ flatten (map (one_line doc) (unpadded false (rows s 0)))
unfolding unpadded common_padding
below doc s l j n e q m = rw (m, row_step s l 0 j (omega arith) e q)

-- a comment of one line beside its opening
pub beside-one : (doc : Bool) (s l : List ℕ) (j : ℕ) → l ≡ first_or [] (rows s 0) → j ≡ suc (line_end s 0) → length s < j
    → one_line doc l ++ [] ≡ flatten (map (one_line doc) (unpadded true (rows s 0)))
unfolding unpadded flatten
beside-one doc s l j e q h = rw (row_step s l 0 j (omega arith) e q, rows_none s j h)

-- the padding of two lines or more beside the opening is counted from the second
two_padded : (l m : List ℕ) (rs : List (List ℕ)) → common_padding true (l ∷ m ∷ rs) ≡ common (padding m m) rs
unfolding common_padding
two_padded l m rs = rw (lt-ltb 1 (suc (suc (length rs))) (omega arith))

two_unpadded : (l m : List ℕ) (rs : List (List ℕ)) → unpadded true (l ∷ m ∷ rs) ≡ l ∷ map (drop (length (common (padding m m) rs))) (m ∷ rs)
unfolding unpadded
two_unpadded l m rs = ap (λ (n : ℕ). l ∷ map (drop n) (m ∷ rs)) (ap length (two_padded l m rs))

-- a comment of more lines beside its opening
pub beside-more : (doc : Bool) (s l m : List ℕ) (j k n : ℕ) → l ≡ first_or [] (rows s 0) → j ≡ suc (line_end s 0) → j ≤ length s
    → m ≡ first_or [] (rows s j) → k ≡ suc (line_end s j) → n ≡ length (common (padding m m) (rows s k))
    → one_line doc l ++ shown doc n (rows s j) ≡ flatten (map (one_line doc) (unpadded true (rows s 0)))
unfolding flatten
beside-more doc s l m j k n e q h f p d =
    let two : rows s 0 ≡ l ∷ m ∷ rows s k = row_step s l 0 j (omega arith) e q ∙ ap (λ (ls : List (List ℕ)). l ∷ ls) (row_step s m j k h f p) in
    rw (d, two, row_step s m j k h f p, two_unpadded l m (rows s k))

-- BLOCKS

and_false : (t : Bool) → (t && false) ≡ false
and_false true = refl
and_false false = refl

pub block_one : (doc : Bool) (now : Bool) (s l : List ℕ) (j : ℕ) (loc : Location) → doc ≡ false → l ≡ first_or [] (rows s 0) → j ≡ suc (line_end s 0) → length s < j
    → on_one_line l loc ≡ block_of doc now (rows s 0) loc
unfolding block_of
block_one doc now s l j loc d e q h = rw (d, row_step s l 0 j (omega arith) e q, rows_none s j h)

pub block_doc : (doc : Bool) (now : Bool) (s : List ℕ) (loc : Location) → doc ≡ true → many_lines doc (unpadded now (rows s 0)) ≡ block_of doc now (rows s 0) loc
unfolding block_of
block_doc doc now s loc d = rw (d, row_step s _ 0 (suc (line_end s 0)) (omega arith) refl refl, and_false)

pub block_more : (doc : Bool) (now : Bool) (s : List ℕ) (j : ℕ) (loc : Location) → doc ≡ false → j ≡ suc (line_end s 0) → j ≤ length s → many_lines doc (unpadded now (rows s 0)) ≡ block_of doc now (rows s 0) loc
unfolding block_of
block_more doc now s j loc d q h = rw (row_step s _ 0 j (omega arith) refl q, row_step s _ j (suc (line_end s j)) h refl refl)

-- MULTI-LINE COMMENTS

rows_zero : (t : List ℕ) → rows t 0 ≡ map trim_end (lines t)
unfolding rows
rows_zero t = rw (le-leb 0 (length t) (omega arith))

rows-from : (t : List ℕ) (i : ℕ) → i ≤ length t → rows (drop i t) 0 ≡ rows t i
unfolding rows
rows-from t i h = rw (le-leb 0 (length (drop i t)) (omega arith), le-leb i (length t) h)

none_left : {A : Type 0} (f : A → Bool) (xs : List A) → drop_while f xs ≡ [] → drop_end f xs ≡ []
unfolding drop_while drop_end
none_left f [] h = refl
none_left {A} f (x ∷ xs) h = go (f x) h (none_left f xs)
  where
    go : (t : Bool) → cond t (drop_while f xs) (x ∷ xs) ≡ [] → (drop_while f xs ≡ [] → drop_end f xs ≡ []) → cond (t && is_nil (drop_end f xs)) [] (x ∷ drop_end f xs) ≡ []
    go true e r = rw (r e)
    go false e r = let z : ◌≡◌ {A = ℕ} 0 1 = cc in absurd (omega arith)

-- what a comment with text gives: r is what stands in it, t that without the white space at its end
module _ (r t : List ℕ) (e : t ≡ trim_end r) (n : length t ≡ 0 → ⊥) where
  text-left : trim_end r ≡ [] → ⊥
  text-left z = n (ap length (e ∙ z))

  kept : drop_end is_nil (map trim_end (lines r)) ≡ rows t 0
  kept = kept-lines r text-left ∙ sym (rows_zero (trim_end r)) ∙ ap (λ (u : List ℕ). rows u 0) (sym e)

  -- there is a line that is not empty
  rows_left : drop_while is_nil (rows t 0) ≡ [] → ⊥
  rows_left a =
      let b : rows t 0 ≡ [] = sym kept ∙ sym (drop_end-twice is_nil (map trim_end (lines r))) ∙ ap (drop_end is_nil) kept ∙ none_left is_nil (rows t 0) a in
      let c = row_step t _ 0 _ (omega arith) refl refl in
      let z : ◌≡◌ {A = ℕ} 0 1 = cc in
      omega arith

  from-rows : drop_while is_nil (rows t 0) ≡ block_lines r
  unfolding block_lines
  from-rows = ap (drop_while is_nil) (sym kept) ∙ sym (drops_commute is_nil (map trim_end (lines r)))

  module _ (i : ℕ) (f : FirstRow t i) where
    pub first-within : i ≤ length t
    first-within = go (leb i (length t)) refl
      where
        go : (b : Bool) → leb i (length t) ≡ b → i ≤ length t
        go true q = leb-true i (length t) q
        go false q = absurd (rows_left (f.skipped ∙ rows_none t i (leb-false i (length t) q)))

    block-rows : rows (drop i t) 0 ≡ block_lines r
    block-rows = rows-from t i first-within ∙ sym f.skipped ∙ from-rows

    immediate-is : eqb i 0 ≡ immediate r
    unfolding immediate
    immediate-is = f.first ∙ ap (λ (l : List ℕ). not (is_nil l)) (ap (λ (u : List ℕ). first_or [] (rows u 0)) e ∙ ap (first_or []) (rows_zero (trim_end r)) ∙ first-kept r)

block_none : (r : List ℕ) → trim_end r ≡ [] → block_lines r ≡ []
unfolding block_lines drop_while
block_none r z = drops_commute is_nil (map trim_end (lines r)) ∙ ap (drop_while is_nil) (blank-lines r z)

block-some : (doc now : Bool) (ls : List (List ℕ)) (loc : Location) → (ls ≡ [] → ⊥) → false ≡ is_nil (block_of doc now ls loc)
unfolding block_of on_one_line many_lines
block-some doc now [] loc h = absurd (h refl)
block-some doc now (l ∷ ls) loc h = go (is_nil ls && not doc) loc
  where
    go : (b : Bool) (loc : Location) → false ≡ is_nil (cond b (on_one_line l loc) (many_lines doc (unpadded now (l ∷ ls))))
    go true above_item = refl
    go true item_inline = refl
    go true end_of_items = refl
    go false loc = refl

-- from what the code reads of a multi-line comment: what stands inside, whether it is a doc comment, and the rest b
module _ (s body b : List ℕ) (doc : Bool) (loc : Location) (h : body ≡ take (length s - 4) (drop 2 s)) (d : doc ≡ starts_with (ascii "*") body) (c : b ≡ cond doc (drop 1 body) body) where
  multi-is : block_of doc (immediate b) (block_lines b) loc ≡ multi_line s loc
  unfolding multi_line
  multi-is = rw (c, d, h)

  pub multi-none : (t : List ℕ) → t ≡ trim_end b → length t ≡ 0 → multi_line s loc ≡ []
  unfolding block_of
  multi-none t e n = sym multi-is ∙ rw (block_none b (sym e ∙ empty t n))

  pub multi-some : (t v : List ℕ) (i : ℕ) → t ≡ trim_end b → (length t ≡ 0 → ⊥) → FirstRow t i → v ≡ drop i t → block_of doc (eqb i 0) (rows v 0) loc ≡ multi_line s loc
  multi-some t v i e n f w = rw (w, immediate-is b t e n i f, block-rows b t e n i f) multi-is

  -- a comment without text prints nothing, and any other prints something
  pub multi-blank : (t : List ℕ) → t ≡ trim_end b → eqb (length t) 0 ≡ is_nil (multi_line s loc)
  multi-blank t e = go (eqb (length t) 0) refl
    where
      go : (z : Bool) → eqb (length t) 0 ≡ z → z ≡ is_nil (multi_line s loc)
      go true q = rw (multi-none t e (eqb-true (length t) 0 q)) refl
      go false q =
          let n = eqb-false (length t) 0 q in
          rw (sym multi-is) (block-some doc (immediate b) (block_lines b) loc (λ z. rows_left b t e n (from-rows b t e n ∙ z)))

-- ANY TOKEN

pub keyed : (j k : ℕ) (s : List ℕ) (loc : Location) → k ≡ j → comment j s loc ≡ comment k s loc
keyed j k s loc e = ap (λ (n : ℕ). comment n s loc) (sym e)

pub erroneous : (k : ℕ) (s : List ℕ) (loc : Location) → (k ≡ 64 → ⊥) → (k ≡ 65 → ⊥) → (k ≡ 66 → ⊥) → (k ≡ 67 → ⊥) → (k ≡ 68 → ⊥) → (k ≡ 69 → ⊥) → error_items [] s ≡ comment k s loc
unfolding comment
erroneous k s loc a b c d e f = rw (ne_eqb k 64 a, ne_eqb k 65 b, ne_eqb k 66 c, ne_eqb k 67 d, ne_eqb k 68 e, ne_eqb k 69 f)
