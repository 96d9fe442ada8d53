-- The laws of a row: its pieces in turn, and what each of them prints.
use Rattle.std.specs.Prelude.{◌≡◌, ℕ, suc, ◌+◌, ◌-◌, ◌*◌, ◌<◌, ◌≤◌, Bool, true, false, cond, not, ◌||◌, eqb, List, [], ◌∷◌, length, take, drop}
use mathlib.Core.Path.{refl, sym, ap, ◌∙◌}
use mathlib.Core.Bool.{false≢true}
use mathlib.Core.Option.{Option, none as nothing, some}
use mathlib.Core.List.{flatten}
use Prim.Native.String.{String}
use native.Mathlib.Omega.{arith}
use lib.Seq.{drop-cons}
use borrow.Author.Tests.{eqb-true}
use Rattle.text.specs.Basic.{ascii, is_nil}
use Rattle.text.proofs.Table.{tabled-at}
use Rattle.items.specs.Item.{Print, ◌⨟◌, none, lit, when, say, newline, signal}
use Rattle.items.specs.declared.Signal.{Signal}
use Rattle.tree.specs.Source.{source_at}
use Rattle.plan.specs.declared.Planner.{Planner}
use Rattle.plan.specs.Plans.{Plans}
use Rattle.plan.proofs.Laws.{◌▸◌, by, idle}
use Rattle.tree.specs.Tree.{Part}
use Rattle.tree.specs.declared.class.Class.{Class}
use Rattle.tree.specs.declared.class.Kinds.{Kinds}
use Rattle.tree.specs.Class.{kinds, one_of, nth, plus_of, number_of}
use Rattle.tree.specs.Index.{kind_at, end_at, part_at, parts_from, Region}
use Rattle.tree.proofs.Siblings.{region-part, region-next, parts-over}
use Rattle.children.specs.Stretch.{Stretch}
use Rattle.children.proofs.Stretch.{stretch_none, stretch_both}
use Rattle.printer.specs.declared.rows.Entry.{Entry}
use Rattle.printer.specs.declared.rows.What.{What as Code}
use Rattle.printer.specs.declared.rows.What.TheVariants as C
use Rattle.printer.specs.Layout
use Rattle.printer.specs.Layout.{asked, layout, rows}
use Rattle.printer.specs.Print.{each_of, what, row}
use Rattle.plan.specs.Words.{words, word_at, word_or_none, word_count}
use Rattle.printer.specs.Rows.{want_at, what_of, what_in, piece_of, all_pieces, piece_at, tested, settled, Coded, Marks, piece_count}
use Rattle.printer.proofs.Seq.{Goes, goes_none, goes-more, goes-all, seq_assoc, none_first, none_last}
use Rattle.printer.specs.Under.{At, Kid, under, parts_of, print_of}
use Rattle.printer.specs.Reads.{number_or, Has}
use Rattle.printer.proofs.Under.{size, kid_of, kid-found, kid-print, kid-less, at-region}
use Rattle.printer.proofs.Readings.{part-number, behind_kid}

-- ---- the pieces of a row in turn

-- The pieces from n on are still to be printed, of the row of element i, whose parts have the marks m.
pub record Rowing (image index : List ℕ) (i m end : ℕ) (o a : Planner) (n : ℕ) : Type 0 where
  pub few : end ≤ piece_count
  pub marks : (q : ℕ) → n ≤ q → q < end → Marks (parts_of image index i) (tested (piece_at q)) m
  pub goes : Goes (source_at image index) (row (under image i) (parts_of image index i) (layout (kind_at index i))) (row (under image i) (parts_of image index i) (take (end - n) (drop n all_pieces))) o a

pieces-count : length all_pieces ≡ piece_count
unfolding all_pieces rows flatten
pieces-count = refl

module _ {image index : List ℕ} {i m : ℕ} {o : Planner} where
  pub rowing_more : {end n k : ℕ} {a b : Planner} → Rowing image index i m end o a n → n < end
      → Plans (source_at image index) (when (asked (parts_of image index i) (piece_at n)) (what (under image i) (parts_of image index i) (piece_at n).what)) a b → k ≡ n + 1 → Rowing image index i m end o b k
  unfolding row
  rowing_more {end} {n} {k} r h p e =
      let q : end - n ≡ suc (end - suc n) = omega arith in
      let s : k ≡ suc n = omega arith in
      record {
        few = r.few;
        marks = λ x h l. r.marks x (omega arith) l;
        goes = rw s (goes-more r.goes (rw (q, drop-cons all_pieces n (Layout.t "") (omega (arith, pieces-count, r.few)))) p);
      }

  pub rowing-all : {end n : ℕ} {a : Planner} → Rowing image index i m end o a n → end ≤ n → Plans (source_at image index) (row (under image i) (parts_of image index i) (layout (kind_at index i))) o a
  unfolding row
  rowing-all {end} {n} r h = let q : end - n ≡ 0 = omega arith in goes-all r.goes (rw q)

-- ---- one piece

module _ (pr : ℕ → Print) (ps : List Part) (n : ℕ) (x : Entry) (r : Bool) (c : Coded n x) (e : r ≡ asked ps (piece_of x)) where
  -- it is not asked for
  pub piece-unasked : not r ≡ true → when (asked ps (piece_at n)) (what pr ps (piece_at n).what) ≡ none
  unfolding when
  piece-unasked h = rw (← c.piece, ← e) (go r h)
    where
      go : (r : Bool) → not r ≡ true → when r (what pr ps (piece_of x).what) ≡ none
      go true h = absurd (false≢true h)
      go false h = refl

  -- it is asked for
  pub piece-asked_lem : not r ≡ false → when (asked ps (piece_at n)) (what pr ps (piece_at n).what) ≡ what pr ps (what_of (what_in x.what) x.want x.word)
  unfolding when
  piece-asked_lem h = rw (← c.piece, ← e) (go r h)
    where
      go : (r : Bool) → not r ≡ false → when r (what pr ps (piece_of x).what) ≡ what pr ps (piece_of x).what
      go true h = refl
      go false h = absurd (false≢true (sym h))

module _ (pr : ℕ → Print) (ps : List Part) (x : Entry) {k : Code} (j : k ≡ what_in x.what) where
  -- a text
  pub piece-text : k ≡ C.Text → what pr ps (what_of (what_in x.what) x.want x.word) ≡ lit (word_at x.word)
  unfolding what what_of
  piece-text e = rw (← j, e)

  -- a newline, an indent or an outdent
  pub piece-signal : {g : Signal} → k ≡ C.Signal g → what pr ps (what_of (what_in x.what) x.want x.word) ≡ say (signal g)
  unfolding what what_of
  piece-signal e = rw (← j, e)

  -- all parts of a class
  pub piece-each : {ended : Bool} → k ≡ C.Each ended → what pr ps (what_of (what_in x.what) x.want x.word) ≡ each_of pr (want_at x.want).class (word_at x.word) ended ps
  unfolding what what_of
  piece-each e = rw (← j, e)

  -- a part
  pub piece-part : settled x ≡ true → k ≡ C.Part → what pr ps (what_of (what_in x.what) x.want x.word) ≡ number_or pr (word_or_none x.word) (number_of (nth (want_at x.want).class (want_at x.want).place ps))
  unfolding what what_of word_or_none
  piece-part t e = rw (← j, e) (go (eqb x.word 0) (rw (← j, e) at t))
    where
      go : (b : Bool) → (not b || eqb (want_at x.want).place 0) ≡ true
          → what pr ps (cond b (Layout.opt (want_at x.want).class) (Layout.part (want_at x.want) (word_at x.word))) ≡ number_or pr (cond b none (lit (word_at x.word))) (number_of (nth (want_at x.want).class (want_at x.want).place ps))
      go true t = let z : (want_at x.want).place ≡ 0 = eqb-true _ 0 t in rw z (part-number pr none _)
      go false t = part-number pr (lit (word_at x.word)) _

  -- the `+` of a field
  pub piece-plus : settled x ≡ true → k ≡ C.Plus → what pr ps (what_of (what_in x.what) x.want x.word) ≡ number_or pr (word_or_none x.word) (number_of (plus_of ps))
  unfolding what what_of word_or_none
  piece-plus t e = let z : eqb x.word 0 ≡ true = rw (← j, e) at t in rw (← j, e, z) (part-number pr none (plus_of ps))

-- ---- parts that were found

-- a part that was found is a child
pub found_kid : {image index : List ℕ} {i : ℕ} (j : ℕ) {n : Option ℕ} → At image index i → Has (parts_of image index i) n → n ≡ some j → Kid image index i j
found_kid j a h e = kid-found a (h.part j e)

-- the printer of a child may be called: the child has fewer elements under it
pub kid_falls : {image index : List ℕ} {i j t : ℕ} → Kid image index i j → size index i * 6 ≡ t → size index j * 6 + 5 < t
kid_falls k e = omega (arith, kid-less k)

-- it prints what the child with its number prints
pub number-found : {image index : List ℕ} {i j : ℕ} (p : Print) {n : Option ℕ} → n ≡ some j → Kid image index i j → number_or (under image i) p n ≡ print_of image j
unfolding number_or
number-found p e k = rw e (kid-print k)

pub number-none : (pr : ℕ → Print) (p : Print) {n : Option ℕ} → n ≡ nothing → number_or pr p n ≡ p
unfolding number_or
number-none pr p e = rw e

-- ---- all parts of a class

-- the test of a class, as the code makes it
pub class-tested : (c : Class) {w : Kinds} {k n : ℕ} {r b : Bool} → r ≡ one_of w k → w ≡ kinds c → k ≡ n → r ≡ b → one_of (kinds c) n ≡ b
class-tested c e f g h = rw (← f, ← g, ← e) h

module _ (pr : ℕ → Print) (c : Class) (s : String) (ended : Bool) where
  -- a part of another class
  pub each-other : (x : Part) → one_of (kinds c) x.kind ≡ false → each_of pr c s ended (x ∷ []) ≡ none
  unfolding each_of
  each-other x h = rw h

  -- the parts in turn
  each-cons : (x : Part) (xs : List Part) → each_of pr c s ended (x ∷ xs) ≡ each_of pr c s ended (x ∷ []) ⨟ each_of pr c s ended xs
  unfolding each_of
  each-cons x xs = go (one_of (kinds c) x.kind)
    where
      F : Print
      F = when (not (is_nil (ascii s))) (lit s)

      E : Print
      E = when ended (lit "," ⨟ say newline)

      go : (b : Bool) → cond b (F ⨟ (pr x.number ⨟ (E ⨟ each_of pr c s ended xs))) (each_of pr c s ended xs) ≡ cond b (F ⨟ (pr x.number ⨟ (E ⨟ none))) none ⨟ each_of pr c s ended xs
      go true = rw (none_last E, seq_assoc F (pr x.number ⨟ E) (each_of pr c s ended xs), seq_assoc (pr x.number) E (each_of pr c s ended xs))
      go false = rw (none_first (each_of pr c s ended xs))

-- a text in front: number 0 is none
front-word : (w : ℕ) → w < word_count → is_nil (ascii (word_at w)) ≡ eqb w 0
unfolding words
front-word w h = sym (tabled-at true word_count (λ w. is_nil (ascii (word_at w))) w h) ∙ tabled-at true word_count (λ w. eqb w 0) w h

-- a part of the class: the text in front, the part, and what ends it
pub each-one : {image index : List ℕ} {i j : ℕ} (w : ℕ) (c : Class) (ended : Bool) {o a b d : Planner} → w < word_count → Kid image index i j → one_of (kinds c) (kind_at index j) ≡ true
    → Plans (source_at image index) (word_or_none w) o a → Plans (source_at image index) (print_of image j) a b → Plans (source_at image index) (when ended (lit "," ⨟ say newline)) b d
    → Plans (source_at image index) (each_of (under image i) c (word_at w) ended (part_at image index j ∷ [])) o d
unfolding each_of word_or_none
each-one w c ended l k h x y z = by (rw (h, front-word w l)) (by (front w) x ▸ by (kid-print k) y ▸ z ▸ idle)
  where
    front : (w : ℕ) → when (not (eqb w 0)) (lit (word_at w)) ≡ cond (eqb w 0) none (lit (word_at w))
    front w = go (eqb w 0)
      where
        go : (b : Bool) → when (not b) (lit (word_at w)) ≡ cond b none (lit (word_at w))
        go true = unfold when in refl
        go false = unfold when in refl

-- The parts from j on are still to be printed, of element i.
pub record Eaching (image index : List ℕ) (i : ℕ) (c : Class) (s : String) (ended : Bool) (o a : Planner) (j : ℕ) : Type 0 where
  pub at : At image index i
  pub reached : Stretch image index (i + 1) j
  pub region : Region image index j (end_at index i)
  pub goes : Goes (source_at image index) (each_of (under image i) c s ended (parts_of image index i)) (each_of (under image i) c s ended (parts_from image index j (end_at index i))) o a

module _ {image index : List ℕ} {i : ℕ} {o : Planner} where
  pub eaching-none : (c : Class) (s : String) (ended : Bool) {j : ℕ} → At image index i → j ≡ i + 1 → Eaching image index i c s ended o o j
  eaching-none c s ended t e = rw e (record { at = t; reached = stretch_none (at-region t refl refl); region = at-region t refl refl; goes = goes_none _ o })

  module _ {c : Class} {s : String} {ended : Bool} {a : Planner} {j end : ℕ} (r : Eaching image index i c s ended o a j) (e : end ≡ end_at index i) where
    -- the next part is a child
    pub eaching-kid : j < end → Kid image index i j
    eaching-kid h = kid_of r.at r.reached (omega (arith, e))

    pub eaching-more : {k : ℕ} {b : Planner} → j < end → k ≡ end_at index j → Plans (source_at image index) (each_of (under image i) c s ended (part_at image index j ∷ [])) a b → Eaching image index i c s ended o b k
    eaching-more h q p =
        let g : j < end_at index i = omega (arith, e) in
        rw q (record {
          at = r.at;
          reached = stretch_both r.reached (behind_kid (eaching-kid h));
          region = region-next r.region g;
          goes = goes-more r.goes (ap (each_of (under image i) c s ended) (region-part r.region g) ∙ each-cons (under image i) c s ended _ _) p;
        })

    pub eaching-all : end ≤ j → Plans (source_at image index) (each_of (under image i) c s ended (parts_of image index i)) o a
    unfolding each_of
    eaching-all h = goes-all r.goes (rw (parts-over index image j (end_at index i) (omega (arith, e))))
