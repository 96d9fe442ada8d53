-- A measure of the items of a tree: at most 24 units for each element, and 4 for each byte of text.
use mathlib.Core.Path.{◌≡◌, refl, ap, ◌∙◌}
use mathlib.Core.Bool.{Bool, true, false, cond, not, ◌&&◌, ◌||◌, false≢true}
use mathlib.Core.Option.{Option, none as nothing, some}
use mathlib.Core.List.{List, [], ◌∷◌, ◌++◌}
use Prim.Native.Nat.{ℕ, zero, suc, ◌+◌, ◌*◌, ◌≤◌}
use Prim.Native.String.{String}
use native.Mathlib.Omega.{arith}
use native.Mathlib.Nat.{mul-le-mul_right}
use lib.Dec.{leb, eqb}
use lib.ListN.{length, length-append}
use borrow.Author.Tests.{leb-true, eqb-true, eq-eqb, ne_eqb}
use Rattle.text.specs.Basic.{ascii, is_nil, sum, All, ∅, ◌▹◌}
use Rattle.text.proofs.Lists.{and_true, sum-append}
use Rattle.items.specs.Item.{Test, Item, text, newline, space_or_newline, indent, outdent, mark, group, group_end, block, block_end, run, run_end, again, if_test, else_item, end_if, Out, stop, ok, Context, Print, after, next, ◌⨟◌, none, say, says, stopped, lit, when, keeping, with_number, open_run, signal}
use Rattle.numbers.specs.Mode.{keeps}
use Rattle.items.specs.Records.{bytes_of}
use Rattle.items.specs.declared.Signal.{Signal}
use Rattle.items.proofs.Fits.{items_of}
use Rattle.comments.specs.Comments.{Location, above_item, item_inline, end_of_items, comment}
use Rattle.tree.specs.Tree.{Element, Forest, nil, tree, Part, texts, parts}
use Rattle.tree.specs.declared.class.Class.{Class}
use Rattle.tree.specs.Class.{is, kinds, one_of, of_kind, nth, first}
use Rattle.children.specs.Reading
use Rattle.children.specs.Reading.{Child, Ending, Around}
use Rattle.plan.specs.Comments.{comments}
use Rattle.printer.specs.Combine
use Rattle.printer.specs.Layout.{What, txt, bare, part, opt, each, plus, Piece, asked, layout, rows}
use Rattle.printer.specs.Print
use Rattle.formatter.proofs.Tests.{every, every_row, within_all, class-all, layout-every}
use Rattle.formatter.proofs.Weights
use Rattle.formatter.proofs.Weights.{noted, listed, sum-behind, sum-upTo, heft, taken, Maybe, neither, just, nth-all, plus-all, Of, TameReading, between-tame}
use Rattle.formatter.proofs.Columns.{Column, whole, early, late, note, apart, single, empty, Seen, seeing, column, columns, columns-le, weight_of, whole_sum, plus-sum, note-sum, early-nth, second-nth}

-- Tests over the table of rows: the texts are short, a second part is an expression, parts that are all printed can be in a list, and no part is printed twice.

-- no longer than the longest text of the formatter's own
abbrev pub short : List ℕ → Bool
short s = leb (length s) 38

abbrev Short : String → Type 0
Short s = short (ascii s) ≡ true

-- The units of a node beside those of its parts: lists take more than what can be in a list.
abbrev room : ℕ → ℕ
room k =
    cond (leb 64 k) 14
    (cond (eqb k 56) 14
    (cond (eqb k 2) 14
    (cond (eqb k 10) 24
    (cond (eqb k 22) 14
    (cond (eqb k 26) 24
    (cond (eqb k 27) 24
    (cond (eqb k 47) 24
    14)))))))

lower : (b : Bool) {x y : ℕ} → x ≤ 24 → y ≤ 24 → cond b x y ≤ 24
lower true p q = p
lower false p q = q

room_le : (k : ℕ) → room k ≤ 24
room_le k =
    lower (leb 64 k) (omega arith) (lower (eqb k 56) (omega arith) (lower (eqb k 2) (omega arith) (lower (eqb k 10) (omega arith) (lower (eqb k 22) (omega arith)
    (lower (eqb k 26) (omega arith) (lower (eqb k 27) (omega arith) (lower (eqb k 47) (omega arith) (omega arith))))))))

-- what is of such a class can be in a list
abbrev roomy : ℕ → Bool
roomy k = eqb (room k) 14

abbrev Roomy : Class → Type 0
Roomy c = within_all (of_kind c) roomy ≡ true

roomy_is : (c : Class) → Roomy c → (k : ℕ) → of_kind c k ≡ true → room k ≡ 14
roomy_is c h k e = eqb-true (room k) 14 (class-all c roomy h k e)

sum-plus : {A : Type 0} (f g : A → ℕ) (xs : List A) → sum (λ x. f x + g x) xs ≡ sum f xs + sum g xs
unfolding sum
sum-plus f g [] = refl
sum-plus f g (x ∷ xs) = omega (arith, sum-plus f g xs)

fresh : Seen
fresh k = false

fresh_unseen : (c : Class) (k : ℕ) → of_kind c k ≡ true → fresh k ≡ false
unfolding fresh
fresh_unseen c k e = refl

and_is : (b : Bool) → b && true ≡ b
and_is true = refl
and_is false = refl

-- The units of a piece beside those of parts, and the parts that it may print.
abbrev fee : What → ℕ
fee (txt a) = 1
fee (bare x) = 1
fee (part w s) = 1
fee (opt c) = 0
fee (each c front ended) = 0
fee plus = 0

abbrev placed : Class → ℕ → Column
placed c zero = early c
placed c (suc n) = late c

abbrev picks : What → List Column
picks (txt a) = []
picks (bare x) = []
picks (part w s) = placed w.class w.place ∷ []
picks (opt c) = early c ∷ []
picks (each c front ended) = whole c ∷ []
picks plus = whole Class.Operator ∷ []

abbrev placing : Class → ℕ → Bool
placing c zero = true
placing c (suc zero) = within_all (of_kind c) (λ k. eqb k 2)
placing c (suc (suc n)) = false

abbrev sound : What → Bool
sound (txt a) = short (ascii a)
sound (bare x) = true
sound (part w s) = short (ascii s) && placing w.class w.place
sound (opt c) = true
sound (each c front ended) = short (ascii front) && within_all (of_kind c) roomy
sound plus = true

unfoldable fees : List Piece → ℕ
fees [] = 0
fees (p ∷ ps) = fee p.what + fees ps

unfoldable all_picks : List Piece → List Column
all_picks [] = []
all_picks (p ∷ ps) = picks p.what ++ all_picks ps

unfoldable sounds : List Piece → Bool
sounds [] = true
sounds (p ∷ ps) = sound p.what && sounds ps

fair : List Piece → Bool
fair ps = apart (all_picks ps) && (leb (fees ps) 14 && sounds ps)

layout-fair : (k : ℕ) → fair (layout k) ≡ true
unfolding fair apart all_picks fees sounds every single empty kinds one_of rows every_row
layout-fair k = layout-every fair k refl

-- the number of elements of a forest
unfoldable pub count : Forest → ℕ
count nil = 0
count (tree e kids rest) = suc (count kids + count rest)

-- the number of elements below the one with number n
sizes : Forest → ℕ → ℕ
sizes nil n = 0
sizes (tree e kids rest) n = cond (eqb n e.number) (count kids) (sizes rest n)

-- A forest's numbers rise from n on, among siblings and below them.
pub data Rising : ℕ → Forest → Type 0 where
  end : {n : ℕ} → Rising n nil
  node : {n : ℕ} {e : Element} {kids rest : Forest} → n ≤ e.number → Rising (suc e.number) kids → Rising (suc e.number) rest → Rising n (tree e kids rest)

pub rising_le : {m n : ℕ} {f : Forest} → m ≤ n → Rising n f → Rising m f
rising_le l end = end
rising_le {m} l (node {e} h r s) = node {n = m} {e = e} (omega arith) r s

-- the measure of what a printing gives, also where it stops
abbrev pub cost : (Item → ℕ) → Out → ℕ
cost m o = sum m (items_of o)

-- A measure of items: one unit for an item with a short text, one for each further byte of a text, and for a comment 12 units and twice its bytes.
module _ (m : Item → ℕ) (u : ℕ) (short-le : (x : Item) → short (bytes_of x) ≡ true → m x ≤ u) (text-le : (s : List ℕ) → m (text s) ≤ u + length s)
    (comment-le : (k : ℕ) (s : List ℕ) (loc : Location) → sum m (comment k s loc) ≤ 12 * u + 2 * length s) where
  record Bounded (b : ℕ) (p : Print) : Type 0 where
    at : (c : Context) (k : ℕ) → cost m (p c k) ≤ b

  after-cost : (xs : List Item) (o : Out) → cost m (after xs o) ≤ sum m xs + cost m o
  after-cost xs (stop ys e) = omega (arith, sum-append m xs ys)
  after-cost xs (ok ys k) = omega (arith, sum-append m xs ys)

  next-cost : {a b : ℕ} (c : Context) (o : Out) {q : Print} → cost m o ≤ a → Bounded b q → cost m (next o (q c)) ≤ a + b
  next-cost c (stop xs e) l h = omega arith
  next-cost c (ok xs k) {q} l h = omega (arith, after-cost xs (q c k), h.at c k)

  infixr 40 ◌⊕◌
  ◌⊕◌ : {a b : ℕ} {p q : Print} → Bounded a p → Bounded b q → Bounded (a + b) (p ⨟ q)
  unfolding ◌⨟◌
  ◌⊕◌ {p} g h = record { at = λ c k. next-cost c (p c k) (g.at c k) h }

  infix 30 ◌≼◌
  ◌≼◌ : {a b : ℕ} {p : Print} → Bounded a p → a ≤ b → Bounded b p
  ◌≼◌ h l = record { at = λ c k. omega (arith, h.at c k) }

  none-b : Bounded 0 none
  unfolding none sum
  none-b = record { at = λ c k. omega arith }

  stopped-b : {n : ℕ} (e : ℕ) → Bounded n (stopped e)
  unfolding stopped sum
  stopped-b e = record { at = λ c k. omega arith }

  say-b : (x : Item) → short (bytes_of x) ≡ true → Bounded u (say x)
  unfolding say sum
  say-b x h = record { at = λ c k. omega (arith, short-le x h) }

  lit-b : (s : String) → Short s → Bounded u (lit s)
  unfolding lit
  lit-b s h = say-b (text (ascii s)) h

  own-b : (s : List ℕ) → Bounded (u + length s) (say (text s))
  unfolding say sum
  own-b s = record { at = λ c k. omega (arith, text-le s) }

  says-b : {n : ℕ} (xs : List Item) → sum m xs ≤ n → Bounded n (says xs)
  unfolding says
  says-b xs l = record { at = λ c k. l }

  run-b : Bounded u open_run
  unfolding open_run sum
  run-b = record { at = λ c k. omega (arith, short-le (run k) refl) }

  when-b : {n : ℕ} (b : Bool) {p : Print} → Bounded n p → Bounded n (when b p)
  unfolding when
  when-b true h = h
  when-b false h = none-b ≼ omega arith

  keeping-b : {n : ℕ} {p : Print} → Bounded n p → Bounded n (keeping p)
  unfolding keeping
  keeping-b h = record { at = λ c k. (when-b (keeps c.mode) h).at c k }

  cond-b : {n : ℕ} (b : Bool) {p q : Print} → Bounded n p → Bounded n q → Bounded n (cond b p q)
  cond-b true h g = h
  cond-b false h g = g

  -- by a test that also decides the bound
  by : (S : ℕ → Print → Type 0) (b : Bool) {v w : ℕ} {p q : Print} → S v p → S w q → S (cond b v w) (cond b p q)
  by S true h g = h
  by S false h g = g

  with-number-b : {n : ℕ} {p : ℕ → Print} → ((k : ℕ) → Bounded n (p k)) → Bounded n (with_number p)
  unfolding with_number
  with-number-b h = record { at = λ c k. (h k).at c k }

  -- what a part weighs as a comment
  abbrev half : Part → ℕ
  half y = 12 * u + 2 * length y.text

  comments-b : (loc : Location) (xs : List Part) → Bounded (sum half xs) (comments xs loc)
  unfolding comments sum
  comments-b loc [] = none-b
  comments-b loc (x ∷ xs) = says-b _ (comment-le x.kind x.text loc) ⊕ comments-b loc xs

  newline-b : (b : Bool) → Bounded u (Combine.newline_if b)
  newline-b b = when-b b (say-b newline refl)

  ending-b : (e : Ending) → Bounded (u + sum half e.trivia) (Combine.ending e)
  ending-b e = newline-b e.blank_line ⊕ comments-b end_of_items e.trivia

  grouped-b : {n : ℕ} {p : Print} → Bounded n p → Bounded (n + 2 * u) (Combine.grouped p)
  grouped-b h = (say-b group refl ⊕ h ⊕ say-b group_end refl) ≼ omega arith

  only_if-b : (t : Test) {n : ℕ} {p : Print} → Bounded n p → Bounded (n + 2 * u) (Combine.only_if t p)
  only_if-b t h = (say-b (if_test t) refl ⊕ h ⊕ say-b end_if refl) ≼ omega arith

  comma-b : (t : Test) (b : Bool) → Bounded (3 * u) (Combine.comma b t)
  unfolding Combine.comma
  comma-b t true = lit-b "," refl ≼ omega arith
  comma-b t false = only_if-b t (lit-b "," refl) ≼ omega arith

  separator-b : (t : Test) → Bounded (5 * u) (Combine.separator t)
  separator-b t = (say-b (if_test t) refl ⊕ say-b newline refl ⊕ say-b else_item refl ⊕ say-b space_or_newline refl ⊕ say-b end_if refl) ≼ omega arith

  shared-b : (k : ℕ) (t : Test) {n a b : ℕ} {p q r : Print} → Bounded n p → Bounded a q → Bounded b r → Bounded (n + (a + b) + 9 * u) (Print.shared k t p q r)
  unfolding Print.shared
  shared-b k t h f g =
      (say-b (if_test t) refl ⊕ (say-b block refl ⊕ say-b newline refl ⊕ run-b ⊕ h ⊕ say-b (run_end k) refl ⊕ say-b block_end refl ⊕ f)
      ⊕ say-b else_item refl ⊕ (g ⊕ say-b (again k) refl) ⊕ say-b end_if refl) ≼ omega arith

  indented-b : (k : ℕ) (t : Test) {n : ℕ} {p : Print} → Bounded n p → (e : Ending) → Bounded (n + sum half e.trivia + 13 * u) (Print.indented k t p e)
  unfolding Print.indented
  indented-b k t h e = shared-b k t (grouped-b (h ⊕ ending-b e)) none-b (lit-b " " refl) ≼ omega arith

  bracketed-b : (a z : String) → Short a → Short z → {n : ℕ} (p : ℕ → Print) → ((k : ℕ) → Bounded n (p k)) → Bounded (n + 4 * u) (Combine.bracketed a z p)
  unfolding Combine.bracketed
  bracketed-b a z sa sz p h = with-number-b (λ k. (lit-b a sa ⊕ say-b (mark (2 * k)) refl ⊕ h k ⊕ lit-b z sz ⊕ say-b (mark (2 * k + 1)) refl) ≼ omega arith)

  -- what a part weighs, where size n is the number of elements below the one with number n
  abbrev below : (ℕ → ℕ) → Part → ℕ
  below size x = 24 * (u * size x.number) + 4 * length x.text

  abbrev weight : (ℕ → ℕ) → Part → ℕ
  weight size x = 24 * u + below size x

  -- A part prints at most what it weighs, and less where it can be in a list.
  record Held (pr : ℕ → Print) (size : ℕ → ℕ) (x : Part) : Type 0 where
    holds : Bounded (room x.kind * u + below size x) (pr x.number)

  share-b : (a b : Bool) (v : ℕ) {n : ℕ} {p q : Print} → (a ≡ true → Bounded (v + n) p) → Bounded n q → Bounded (cond a v 0 + n) (cond (a && b) p q)
  share-b true true v f g = f refl
  share-b true false v f g = g ≼ omega arith
  share-b false b v f g = g ≼ omega arith

  -- trivia around an expression
  data Few (n : ℕ) : Around → Type 0 where
    foreign_at : {m : ℕ} → Few n (Around.foreign_at m)
    trivia : {xs : List Part} → ((loc : Location) → Bounded n (comments xs loc)) → Few n (Reading.trivia xs)

  few-with : {n : ℕ} {a : Around} (x : Part) → Few n a → Few (half x + n) (Reading.with_trivia x a)
  unfolding comments
  few-with x foreign_at = foreign_at
  few-with x (trivia h) = trivia (λ loc. says-b _ (comment-le x.kind x.text loc) ⊕ h loc)

  few-by : (b c : Bool) (v m : ℕ) {n : ℕ} {a d : Around} → Few (v + n) a → Few n d → Few (cond b v 0 + n) (cond b a (cond c d (Around.foreign_at m)))
  few-by true c v m h g = h
  few-by false true v m h foreign_at = foreign_at
  few-by false true v m h (trivia f) = trivia (λ loc. f loc ≼ omega arith)
  few-by false false v m h g = foreign_at

  strict-b : (xs : List Part) → Few (sum (noted half) xs) (Reading.strict xs)
  unfolding Reading.strict comments sum
  strict-b [] = trivia (λ loc. none-b)
  strict-b (x ∷ xs) = few-by (Reading.is_note x) (is Class.Separator x) (half x) x.number (few-with x (strict-b xs)) (strict-b xs)

  leading-b : (loc : Location) (xs : List Part) → Bounded (sum (noted half) xs) (comments (Reading.leading xs) loc)
  unfolding Reading.leading comments sum
  leading-b loc [] = none-b
  leading-b loc (x ∷ xs) = go (Reading.is_note x) (leading-b loc xs)
    where
      go : (b : Bool) → Bounded (sum (noted half) xs) (comments (Reading.leading xs) loc)
          → Bounded (cond b (half x) 0 + sum (noted half) xs) (comments (cond b (x ∷ Reading.leading xs) []) loc)
      go true h = says-b _ (comment-le x.kind x.text loc) ⊕ h
      go false h = none-b ≼ omega arith

  source-b : {m n v : ℕ} {a d : Around} {p : Print} → Few m a → Few n d → Bounded v p → Bounded (m + (v + (u + n))) (Print.source_of a d p)
  unfolding Print.source_of
  source-b (foreign_at {m}) t h = stopped-b m
  source-b (trivia f) (foreign_at {m}) h = stopped-b m
  source-b (trivia f) (trivia g) h = f above_item ⊕ h ⊕ say-b newline refl ⊕ g end_of_items

  -- What a node prints, where its parts print what they may.
  module _ (pr : ℕ → Print) (size : ℕ → ℕ) where
    abbrev W : Part → ℕ
    W = weight size

    abbrev H : Part → Type 0
    H = Held pr size

    abbrev Tame : Class → ℕ → Reading.Reading → Type 0
    Tame = TameReading half W H

    heavy : (y : Part) → 2 * half y ≤ W y
    heavy y = omega arith

    value-b : {x : Part} → H x → Bounded (W x) (pr x.number)
    value-b {x} h = h.holds ≼ omega (arith, mul-le-mul_right u (room_le x.kind))

    module _ (c : Class) (h : Roomy c) {a b : ℕ} (f g : Bool → Print) (hf : (m : Bool) → Bounded a (f m)) (hg : (m : Bool) → Bounded b (g m)) (l : a + b ≤ 9 * u) where
      children-b : {cs : List Child} → All (Of half W H c) cs → Bounded (sum (heft half W) cs) (Print.children pr f g cs)
      unfolding Print.children sum Print.with_comments
      children-b ∅ = none-b
      children-b (◌▹◌ {x = d} {xs = ds} o r) =
          ((newline-b d.blank_line ⊕ comments-b above_item d.before ⊕ o.has.holds ⊕ hf (Reading.more ds) ⊕ comments-b item_inline d.inline) ⊕ hg (Reading.more ds) ⊕ children-b r)
          ≼ omega (arith, l, ap (λ r. r * u) (roomy_is c h d.value.kind o.kind))

    statements-b : {c : Class} {cs : List Child} → All (Of half W H c) cs → Bounded (sum (heft half W) cs) (Print.statements pr cs)
    unfolding Print.statements Print.statement sum
    statements-b ∅ = none-b
    statements-b (◌▹◌ {x = d} o r) = ((keeping-b (comments-b above_item d.before) ⊕ value-b o.has ⊕ keeping-b (comments-b end_of_items d.inline)) ⊕ statements-b r) ≼ omega arith

    statements_of-b : {c : Class} {n : ℕ} {r : Reading.Reading} → Tame c n r → Bounded n (Print.statements_of pr r)
    unfolding Print.statements_of
    statements_of-b (Weights.foreign {m}) = stopped-b m
    statements_of-b (Weights.read {e} o l) = (statements-b o ⊕ keeping-b (comments-b end_of_items e.trivia)) ≼ omega arith

    values-b : {c : Class} {cs : List Child} → All (Of half W H c) cs → Bounded (sum (heft half W) cs) (Print.values pr cs)
    unfolding Print.values sum
    values-b ∅ = none-b
    values-b (o ▹ r) = (value-b o.has ⊕ values-b r) ≼ omega arith

    values_of-b : {c : Class} {n : ℕ} {r : Reading.Reading} → Tame c n r → Bounded n (Print.values_of pr r)
    unfolding Print.values_of
    values_of-b (Weights.foreign {m}) = stopped-b m
    values_of-b (Weights.read o l) = values-b o ≼ omega arith

    list-b : (c : Class) → Roomy c → (empty a z : String) → Short empty → Short a → Short z → {n : ℕ} {r : Reading.Reading} → Tame c n r → Bounded (24 * u + n) (Print.list pr empty a z r)
    unfolding Print.list
    list-b c h empty a z se sa sz (Weights.foreign {m}) = stopped-b m
    list-b c h empty a z se sa sz (Weights.read {cs} {e} o l) =
        cond-b (Reading.is_empty cs e) (lit-b empty se ≼ omega arith)
        (bracketed-b a z sa sz _ (λ k. let t = Combine.test_of (Reading.any_many_lines cs || e.blank_line) k in
        indented-b k t (grouped-b (children-b c h _ _ (comma-b t) (λ m. separator-b t) (omega arith) o)) e) ≼ omega arith)

    arguments-b : (c : Class) → Roomy c → {n : ℕ} {r : Reading.Reading} → Tame c n r → Bounded (24 * u + n) (Print.arguments pr r)
    unfolding Print.arguments
    arguments-b c h (Weights.foreign {m}) = stopped-b m
    arguments-b c h (Weights.read {e} o l) =
        bracketed-b "(" ")" refl refl _ (λ k.
        shared-b k _ (grouped-b (children-b c h _ _ (comma-b _) (λ m. when-b m (separator-b _)) (omega arith) o)) (say-b newline refl) none-b ⊕ ending-b e) ≼ omega arith

    comp_body-b : {ms : List Child} {n : ℕ} {r : Reading.Reading} → All (Of half W H Class.Member) ms → (me : Ending) → Tame Class.CompSpec n r
        → Bounded (24 * u + (sum (heft half W) ms + n)) (Print.comp_body pr ms me r)
    unfolding every kinds one_of Print.comp_body
    comp_body-b o me (Weights.foreign {m}) = stopped-b m
    comp_body-b {ms} o me (Weights.read {cs} {e} a i) =
        bracketed-b "{" "}" refl refl _ (λ k. let t = Combine.test_of (Reading.any_many_lines ms || (Reading.any_many_lines cs || (me.blank_line || e.blank_line))) k in
        indented-b k t (grouped-b (children-b Class.Member refl _ _ (λ m. only_if-b t (lit-b "," refl)) (λ m. separator-b t) (omega arith) o
        ⊕ newline-b me.blank_line ⊕ children-b Class.CompSpec refl _ _ (λ m. none-b) (λ m. separator-b t) (omega arith) a)) e) ≼ omega arith

    comp_of-b : {xs : List Part} {n : ℕ} {r : Reading.Reading} → All H xs → Tame Class.Member n r → Bounded (24 * u + (n + sum (taken half W Class.CompSpec) xs)) (Print.comp_of pr xs r)
    unfolding Print.comp_of
    comp_of-b p (Weights.foreign {m}) = stopped-b m
    comp_of-b {xs} p (Weights.read {e} a l) = comp_body-b a e (between-tame half W H Class.CompSpec _ _ (some e.trivia) p) ≼ omega arith

    binds-b : {cs : List Child} → All (Of half W H Class.Bind) cs → (e : Ending) → Bounded (sum (heft half W) cs + sum half e.trivia + 5 * u) (Print.many_binds pr cs e)
    unfolding every kinds one_of Print.many_binds
    binds-b o e = (lit-b "local" refl ⊕ say-b indent refl ⊕ say-b newline refl ⊕ children-b Class.Bind refl _ _ (λ m. lit-b "," refl) (λ m. say-b newline refl) (omega arith) o ⊕ ending-b e ⊕ say-b outdent refl) ≼ omega arith

    local-b : {n : ℕ} {r : Reading.Reading} → Tame Class.Bind n r → Bounded (n + 5 * u) (Print.local_of pr r)
    unfolding sum Print.local_of
    local-b (Weights.foreign {m}) = stopped-b m
    local-b (Weights.read {e} ∅ l) = binds-b ∅ e ≼ omega arith
    local-b (Weights.read (◌▹◌ {x = d} o ∅) l) = (comments-b above_item d.before ⊕ lit-b "local " refl ⊕ value-b o.has) ≼ omega arith
    local-b (Weights.read {e} (o ▹ o' ▹ r) l) = binds-b (o ▹ o' ▹ r) e ≼ omega arith

    part-b : {n : ℕ} {p : Print} → Bounded n p → {x : Option Part} → Maybe H x → Bounded (n + weight_of W x) (Print.part_or pr p x)
    unfolding Print.part_or
    part-b h neither = h ≼ omega arith
    part-b h (just g) = value-b g ≼ omega arith

    taken_is : (c : Class) (xs : List Part) → sum (taken half W c) xs ≡ column W (whole c) fresh xs + sum (noted half) xs
    taken_is c xs = rw (sum-plus (λ y. cond (is c y) (W y) 0) (noted half) xs, whole_sum W c fresh xs)

    reading-b : (c : Class) → apart (whole c ∷ note ∷ []) ≡ true → (xs : List Part) → sum (taken half W c) xs ≤ sum W xs
    unfolding columns sum
    reading-b c h xs = omega (arith, taken_is c xs, note-sum W half heavy fresh xs, columns-le W (whole c ∷ note ∷ []) h fresh xs)

    expression-b : {xs : List Part} → All H xs → Bounded (14 * u + sum W xs) (Print.expression pr xs (first Class.ExprBase xs))
    unfolding columns sum apart every single empty kinds one_of Print.expression
    expression-b {xs} p = let o = first Class.ExprBase xs in
        (statements_of-b (between-tame half W H Class.Stmt nothing o nothing p)
        ⊕ part-b (lit-b "/*missing ExprBase*/" refl) (nth-all H Class.ExprBase 0 p)
        ⊕ values_of-b (between-tame half W H Class.Suffix o nothing nothing p))
        ≼ omega (
          arith,
          taken_is Class.Stmt xs,
          taken_is Class.Suffix xs,
          note-sum W half heavy fresh xs,
          early-nth W Class.ExprBase xs fresh (fresh_unseen Class.ExprBase),
          columns-le W (whole Class.Stmt ∷ early Class.ExprBase ∷ whole Class.Suffix ∷ note ∷ []) refl fresh xs,
        )

    each-b : (c : Class) → Roomy c → (front : String) → Short front → (ended : Bool) {xs : List Part} → All H xs → (seen : Seen) → Bounded (column W (whole c) seen xs) (Print.each_of pr c front ended xs)
    unfolding Print.each_of column
    each-b c h front z ended ∅ seen = none-b
    each-b c h front z ended (◌▹◌ {x} w r) seen = let g = each-b c h front z ended r (seeing x seen) in
        rw and_is at (share-b (is c x) true (W x)
        (λ e. (when-b (not (is_nil (ascii front))) (lit-b front z) ⊕ w.holds ⊕ when-b ended (lit-b "," refl ⊕ say-b newline refl) ⊕ g) ≼ omega (arith, ap (λ r. r * u) (roomy_is c h x.kind e))) g)

    placed-b : (c : Class) (n : ℕ) → placing c n ≡ true → (xs : List Part) → weight_of W (nth c n xs) ≤ column W (placed c n) fresh xs
    placed-b c zero h xs = early-nth W c xs fresh (fresh_unseen c)
    placed-b c (suc zero) h xs = second-nth W c 2 (λ k e. eqb-true k 2 (class-all c (λ j. eqb j 2) h k e)) xs fresh
    placed-b c (suc (suc n)) h xs = absurd (false≢true h)

    signal-b : (x : Signal) → Bounded u (say (signal x))
    signal-b x = say-b (signal x) refl

    what-b : {xs : List Part} → All H xs → (w : What) → sound w ≡ true → Bounded (fee w * u + columns W (picks w) fresh xs) (Print.what pr xs w)
    unfolding columns sum Print.what
    what-b p (txt a) h = lit-b a h ≼ omega arith
    what-b p (bare x) h = signal-b x ≼ omega arith
    what-b {xs} p (part w missing) h = let (z, l) = and_true (short (ascii missing)) (placing w.class w.place) h in
        part-b (lit-b missing z) (nth-all H w.class w.place p) ≼ omega (arith, placed-b w.class w.place l xs)
    what-b {xs} p (opt c) h = part-b none-b (nth-all H c 0 p) ≼ omega (arith, early-nth W c xs fresh (fresh_unseen c))
    what-b p (each c front ended) h = let (z, l) = and_true (short (ascii front)) (within_all (of_kind c) roomy) h in each-b c l front z ended p fresh ≼ omega arith
    what-b {xs} p plus h = part-b none-b (plus-all H p) ≼ omega (arith, plus-sum W fresh xs)

    row-b : {xs : List Part} → All H xs → (ps : List Piece) → sounds ps ≡ true → Bounded (fees ps * u + columns W (all_picks ps) fresh xs) (Print.row pr xs ps)
    unfolding Print.row fees all_picks sounds columns
    row-b p [] h = none-b ≼ omega arith
    row-b {xs} p (q ∷ qs) h = let (a, b) = and_true (sound q.what) (sounds qs) h in
        (when-b (asked xs q) (what-b p q.what a) ⊕ row-b p qs b) ≼ rw sum-append (omega arith)

    layout-b : {xs : List Part} → All H xs → (k : ℕ) → Bounded (14 * u + sum W xs) (Print.row pr xs (layout k))
    unfolding fair
    layout-b {xs} p k =
        let ps = layout k in
        let (a, t) = and_true (apart (all_picks ps)) (leb (fees ps) 14 && sounds ps) (layout-fair k) in
        let (b, c) = and_true (leb (fees ps) 14) (sounds ps) t in
        row-b p ps c ≼ omega (arith, columns-le W (all_picks ps) a fresh xs, mul-le-mul_right u (leb-true (fees ps) 14 b))

    comprehension-b : (n : ℕ) {xs : List Part} {x : Option Part} → All H xs → Maybe H x → Bounded (24 * u + sum W xs) (Print.comprehension pr n xs x)
    unfolding columns sum apart every single empty kinds one_of Print.comprehension
    comprehension-b n p neither = stopped-b n
    comprehension-b n {xs} p (just {x} h) =
        comp_of-b p (between-tame half W H Class.Member (first Class.LBrace xs) (some x) nothing p)
        ≼ omega (
          arith,
          taken_is Class.Member xs,
          taken_is Class.CompSpec xs,
          note-sum W half heavy fresh xs,
          columns-le W (whole Class.Member ∷ whole Class.CompSpec ∷ note ∷ []) refl fresh xs,
        )

    -- what an element prints beside its parts and its own text has room
    element-b : (k n : ℕ) (s under : List ℕ) {xs : List Part} → All H xs → length under ≤ sum W xs → Bounded (room k * u + (length s + sum W xs)) (Print.element pr k n s under xs)
    unfolding Print.element sum apart every single empty kinds one_of
    element-b k n s under {xs} p l = let S : ℕ → Print → Type 0 = λ v q. Bounded (v * u + (length s + sum W xs)) q in
        by S (leb 64 k) (own-b s ≼ omega arith)
        (by S (eqb k 56) (own-b under ≼ omega arith)
        (by S (eqb k 2) (expression-b p ≼ omega arith)
        (by S (eqb k 10) (list-b Class.Expr refl "[ ]" "[" "]" refl refl refl (tame Class.Expr Class.LBrack Class.RBrack) ≼ omega (arith, reading-b Class.Expr refl xs))
        (by S (eqb k 22) ((local-b (tame Class.Bind Class.Local Class.Semi) ⊕ lit-b ";" refl ⊕ say-b newline refl) ≼ omega (arith, reading-b Class.Bind refl xs))
        (by S (eqb k 26) (comprehension-b n p (nth-all H Class.CompSpec 0 p) ≼ omega arith)
        (by S (eqb k 27) (list-b Class.Member refl "{ }" "{" "}" refl refl refl (tame Class.Member Class.LBrace Class.RBrace) ≼ omega (arith, reading-b Class.Member refl xs))
        (by S (eqb k 47) (arguments-b Class.Arg refl (tame Class.Arg Class.LParen Class.RParen) ≼ omega (arith, reading-b Class.Arg refl xs))
        (layout-b p k ≼ omega arith))))))))
      where
        tame : (c a z : Class) → Tame c (sum half (listed nothing) + sum (taken half W c) xs) (Reading.enclosed c a z xs)
        tame c a z = between-tame half W H c (first a xs) (first z xs) nothing p

    file-b : {xs : List Part} {x : Option Part} → All H xs → Maybe H x → Bounded (2 * u + (weight_of W x + 2 * sum (noted half) xs)) (Print.source pr xs x)
    unfolding comments Print.source Print.part_or Reading.trivia_before Reading.trivia_after
    file-b {xs} p neither = source-b (trivia {xs = Reading.leading xs} (λ loc. leading-b loc xs)) (trivia {xs = []} (λ loc. none-b)) (lit-b "/*missing Expr*/" refl) ≼ omega arith
    file-b {xs} p (just {x} h) =
        source-b (strict-b (Reading.up_to x.number xs)) (strict-b (Reading.behind x.number xs)) (value-b h) ≼ omega (arith, sum-upTo (noted half) x.number xs, sum-behind (noted half) x.number xs)

  -- what parts print, and what they weigh together
  record Right (f : Forest) (pr : ℕ → Print) (size : ℕ → ℕ) : Type 0 where
    held : All (Held pr size) (parts f)
    whole : sum (weight size) (parts f) ≡ 24 * (u * count f) + 4 * length (texts f)

  module _ (e : Element) (kids rest : Forest) (pr : ℕ → Print) (size : ℕ → ℕ) where
    tree-right : pr e.number ≡ Print.element (Print.prints kids) e.kind e.number e.text (texts kids) (parts kids) → size e.number ≡ count kids
        → Right kids (Print.prints kids) (sizes kids) → Right rest pr size → Right (tree e kids rest) pr size
    unfolding parts count texts sum
    tree-right p s inside later = record {
      held = let h : Bounded (room e.kind * u + (24 * (u * size e.number) + 4 * length (e.text ++ texts kids))) (pr e.number) =
          rw (p, s) (element-b (Print.prints kids) (sizes kids) e.kind e.number e.text (texts kids) inside.held (omega (arith, inside.whole))
          ≼ omega (arith, inside.whole, length-append e.text (texts kids))) in
          record { holds = h } ▹ later.held;
      whole = rw s (omega (arith, later.whole, length-append e.text (texts kids), length-append e.text (texts kids ++ texts rest), length-append (texts kids) (texts rest)));
    }

  -- where pr and size are right from n on
  parts-b : {n : ℕ} {f : Forest} → Rising n f → (pr : ℕ → Print) (size : ℕ → ℕ)
      → ((i : ℕ) → n ≤ i → pr i ≡ Print.prints f i) → ((i : ℕ) → n ≤ i → size i ≡ sizes f i) → Right f pr size
  unfolding Print.prints sizes parts sum count texts
  parts-b end pr size p s = record { held = ∅; whole = omega arith }
  parts-b (node {e} {kids} {rest} l r t) pr size p s = let n = e.number in
      tree-right e kids rest pr size (p n l ∙ rw (eq-eqb n n refl) refl) (s n l ∙ rw (eq-eqb n n refl) refl)
      (parts-b r (Print.prints kids) (sizes kids) (λ i g. refl) (λ i g. refl))
      (parts-b t pr size (λ i g. p i (omega arith) ∙ rw (ne_eqb i n (omega arith)) refl) (λ i g. s i (omega arith) ∙ rw (ne_eqb i n (omega arith)) refl))

  file-bound : {n : ℕ} {f : Forest} → Rising n f → Bounded (24 * (u * count f) + 4 * length (texts f)) (Print.source_file f)
  unfolding Print.source_file count texts columns sum apart every single empty kinds one_of
  file-bound end = none-b ≼ omega arith
  file-bound (node {e} {kids} {rest} l r t) =
      let pr = Print.prints kids in
      let size = sizes kids in
      let xs = parts kids in
      let w = weight size in
      let p = parts-b r pr size (λ i g. refl) (λ i g. refl) in
      file-b pr size p.held (nth-all (Held pr size) Class.Expr 0 p.held)
      ≼ omega (
        arith,
        p.whole,
        early-nth w Class.Expr xs fresh (fresh_unseen Class.Expr),
        note-sum w half (heavy pr size) fresh xs,
        columns-le w (early Class.Expr ∷ note ∷ []) refl fresh xs,
        length-append e.text (texts kids ++ texts rest),
        length-append (texts kids) (texts rest),
      )

  -- the items of a tree measure at most 24 units for each of its elements and 4 for each byte of its texts
  pub bound : {n : ℕ} {f : Forest} → Rising n f → (c : Context) (k : ℕ) → cost m (Print.source_file f c k) ≤ 24 * (u * count f) + 4 * length (texts f)
  bound r c k = (file-bound r).at c k
