-- The printing with its bodies put back is the plain printing, in every context; the numbers that its items name are small; and where it ends does not depend on the context.
use mathlib.Core.Path.{◌≡◌, refl, ap, ◌∙◌}
use mathlib.Core.Bool.{Bool, true, false, cond, not, ◌||◌}
use mathlib.Core.Option.{Option, none as nothing, some}
use mathlib.Core.List.{List, [], ◌∷◌, ◌++◌, append-nil, append_assoc}
use Prim.Native.Nat.{ℕ, suc, ◌+◌, ◌*◌, ◌≤◌}
use Prim.Native.String.{String}
use native.Mathlib.Omega.{arith}
use lib.Dec.{leb, eqb}
use borrow.Author.Tests.{eq-eqb}
use Rattle.text.specs.Basic.{ascii, is_nil, sum, All, ∅, ◌▹◌}
use Rattle.text.proofs.Lists.{sum-append, all_append}
use Rattle.items.specs.Item.{Test, lines, Item, text, newline, space_or_newline, tab, indent, outdent, mark, group, group_end, block, block_end, run, run_end, again, if_test, else_item, end_if, Out, stop, ok, Context, Print, after, next, ◌⨟◌, none, say, says, stopped, lit, when, keeping, with_number, open_run, starting_at, signal}
use Rattle.numbers.specs.Mode.{keeps}
use Rattle.items.specs.Role.{stays, role, is_run, is_mark, runs_of, marks_of}
use Rattle.items.specs.declared.Signal.{Signal}
use Rattle.items.proofs.Fits.{items_of}
use Rattle.comments.specs.Comments.{Location, above_item, item_inline, end_of_items}
use Rattle.comments.proofs.Every.{comment-all}
use Rattle.tree.specs.Tree.{Forest, nil, tree, Part, texts, parts}
use Rattle.tree.specs.Class.{is, nth, first, plus_of}
use Rattle.tree.specs.declared.class.Class.{Class}
use Rattle.children.specs.Reading
use Rattle.plan.specs.Comments.{comments}
use Rattle.printer.specs.Layout.{What, txt, bare, part, opt, each, plus, Piece, asked, layout}
use Rattle.printer.specs.Combine
use Rattle.printer.specs.Print
use Rattle.plan.specs.Load.{number_in}
use Rattle.formatter.proofs.Numbers.{signal_sign}
use Rattle.formatter.specs.PutBack.{Body, Open, State, body_of, emit, opened, closed, put, puts, nothing_yet, put_back}
use Rattle.formatter.specs.PlainCombine
use Rattle.formatter.specs.Plain

-- The number that an item names is at most that of the second mark of list l.
pub record Below (l : ℕ) (x : Item) : Type 0 where
  pub named : number_in x ≤ 2 * l + 1

names : {l : ℕ} (x : Item) → number_in x ≤ 2 * l + 1 → Below l x
names x h = record { named = h }

-- An item that stays when bodies are put back, and names such a number.
record Still (l : ℕ) (x : Item) : Type 0 where
  stay : role x ≡ stays
  below : Below l x

below_le : {l m : ℕ} {xs : List Item} → l ≤ m → All (Below l) xs → All (Below m) xs
below_le h ∅ = ∅
below_le h (◌▹◌ {x} b bs) = names x (omega arith) ▹ below_le h bs

still_le : {l m : ℕ} {xs : List Item} → l ≤ m → All (Still l) xs → All (Still m) xs
still_le h ∅ = ∅
still_le h (◌▹◌ {x} b bs) = record { stay = b.stay; below = names x (omega arith) } ▹ still_le h bs

-- an item that names no number
still : {l : ℕ} (x : Item) → role x ≡ stays → number_in x ≡ 0 → Still l x
still x h e = record { stay = h; below = names x (omega arith) }

-- Items at number k and what they are put back to, up to number l; a and b say how marks and runs are out of balance.
record Fits (a b k l : ℕ) (xs ys : List Item) : Type 0 where
  back : (s : State) → (m : List Body) × (puts xs s ≡ record { out = s.out ++ ys; outer = s.outer; bodies = m })
  next : l ≡ k + runs_of xs
  marks : marks_of xs + a ≡ 2 * runs_of xs + b
  small : All (Below l) xs

puts-append : (xs ys : List Item) (s : State) → puts (xs ++ ys) s ≡ puts ys (puts xs s)
unfolding puts
puts-append [] ys s = refl
puts-append (x ∷ xs) ys s = puts-append xs ys (put x (role x) s)

runs_append : (xs ys : List Item) → runs_of (xs ++ ys) ≡ runs_of xs + runs_of ys
runs_append xs ys = sum-append (λ x. is_run (role x)) xs ys

marks-append : (xs ys : List Item) → marks_of (xs ++ ys) ≡ marks_of xs + marks_of ys
marks-append xs ys = sum-append (λ x. is_mark (role x)) xs ys

nil-fits : {k : ℕ} → Fits 0 0 k k [] []
unfolding puts sum
nil-fits = record { back = λ s. (s.bodies, rw append-nil); next = omega arith; marks = refl; small = ∅ }

join_fits : {a b c d k l m : ℕ} {xs ys us vs : List Item} → Fits a b k l xs ys → Fits c d l m us vs → Fits (a + c) (b + d) k m (xs ++ us) (ys ++ vs)
join_fits {xs} {ys} {us} {vs} f g = record {
  back = λ s. let (m, e) = f.back s in
      let (n, e') = g.back (record { out = s.out ++ ys; outer = s.outer; bodies = m }) in
      (n, rw (puts-append, e, e', append_assoc) refl);
  next = rw runs_append (omega arith);
  marks = rw (runs_append, marks-append) (omega arith);
  small = all_append (below_le (omega arith) f.small) g.small;
}

still-puts : {k : ℕ} {xs : List Item} → All (Still k) xs → (s : State) → puts xs s ≡ emit xs s
unfolding puts put
still-puts ∅ s = rw append-nil
still-puts (◌▹◌ {x} e m) s = rw (e.stay, still-puts m, append_assoc)

-- items that all stay
still-fits : {k : ℕ} {xs : List Item} → All (Still k) xs → Fits 0 0 k k xs xs
unfolding puts sum
still-fits ∅ = nil-fits
still-fits {k} (e ▹ m) = let f = still-fits {k = k} m in record {
  back = λ s. (s.bodies, still-puts (e ▹ m) s);
  next = rw e.stay (omega (arith, f.next));
  marks = rw e.stay (omega (arith, f.marks));
  small = e.below ▹ f.small;
}

-- a run-end with the number of the innermost open run closes it
closed-own : (k : ℕ) (xs : List Item) (outer : List Open) (s : State)
    → closed k (record { number = k; before = xs } ∷ outer) s ≡ record { out = xs ++ s.out; outer = outer; bodies = record { number = k; items = s.out } ∷ s.bodies }
unfolding closed
closed-own k xs outer s = rw (eq-eqb k k refl)

-- the body of the run that was closed last
own_body : (k : ℕ) (xs : List Item) (bs : List Body) → body_of k (record { number = k; items = xs } ∷ bs) ≡ xs
unfolding body_of
own_body k xs bs = rw (eq-eqb k k refl)

-- a run, and its repetition: items that stay are between the two and behind
run_fits : {k l : ℕ} {xs ys us vs : List Item} → Fits 0 0 (suc k) l xs ys → All (Still k) us → All (Still k) vs
    → Fits 2 0 k l (run k ∷ xs ++ (run_end k ∷ us ++ (again k ∷ vs))) (ys ++ (us ++ (ys ++ vs)))
unfolding puts put sum
run_fits {k} {l} {xs} {ys} {us} {vs} f p q = let g = still-fits p in let h = still-fits q in record {
  back = λ s. let (m, e) = f.back (opened k s) in
      let z = closed-own k s.out s.outer (record { out = ys; outer = (opened k s).outer; bodies = m }) in (
        record { number = k; items = ys } ∷ m,
        rw (puts-append, e) (ap (puts (us ++ (again k ∷ vs))) z
            ∙ rw (puts-append us (again k ∷ vs), still-puts p, still-puts q, own_body, append_assoc, append_assoc, append_assoc)),
      );
  next = rw runs_append (omega (arith, f.next, runs_append us (again k ∷ vs), g.next, h.next));
  marks = rw (runs_append, marks-append) (omega (arith, f.marks, runs_append us (again k ∷ vs), marks-append us (again k ∷ vs), g.next, g.marks, h.next, h.marks));
  small = let t : k ≤ l = omega (arith, f.next) in
      names (run k) (omega arith) ▹ all_append f.small (names (run_end k) (omega arith) ▹ all_append (below_le t g.small) (names (again k) (omega arith) ▹ below_le t h.small));
}

-- Two printings from number k: both stop at one element, or both come to the same number.
data Meets (a b k : ℕ) : Out → Out → Type 0 where
  stops : {xs ys : List Item} (e : ℕ) → All (Below (k + runs_of xs)) xs → Meets a b k (stop xs e) (stop ys e)
  gives : {l : ℕ} {xs ys : List Item} → Fits a b k l xs ys → Meets a b k (ok xs l) (ok ys l)

-- Two printings end alike: they stop at one element, or come to the same number.
pub data Alike : Out → Out → Type 0 where
  stops : {xs ys : List Item} (e : ℕ) → Alike (stop xs e) (stop ys e)
  gives : {xs ys : List Item} (k : ℕ) → Alike (ok xs k) (ok ys k)

-- Two printings meet from every number from j on, as where a test names the marks of list j, and end alike, whatever the context of each.
record Agree (j : ℕ) (p q : Print) : Type 0 where
  at : (c : Context) (k : ℕ) → j ≤ k → Meets 0 0 k (p c k) (q c k)
  ends : (c d : Context) (k : ℕ) → Alike (p c k) (q d k)

-- The same of two printings of list k whose marks stand around them.
record Inner (k : ℕ) (p q : Print) : Type 0 where
  at : (c : Context) → Meets 2 0 k (p c k) (q c k)
  ends : (c d : Context) → Alike (p c k) (q d k)

later : {j : ℕ} {p q : Print} → Agree 0 p q → Agree j p q
later h = record { at = λ c k l. h.at c k (omega arith); ends = h.ends }

after_meets : {a b c d k l : ℕ} {xs ys : List Item} {o o' : Out} → Fits a b k l xs ys → Meets c d l o o' → Meets (a + c) (b + d) k (after xs o) (after ys o')
after_meets {xs} f (stops {xs = us} e s) =
    stops e (let r = runs_append xs us in all_append (below_le (omega (arith, f.next)) f.small) (below_le (omega (arith, f.next)) s))
after_meets f (gives g) = gives (join_fits f g)

next_meets : {a b c d k : ℕ} {o o' : Out} {p q : ℕ → Out} → Meets a b k o o' → ((l : ℕ) → k ≤ l → Meets c d l (p l) (q l)) → Meets (a + c) (b + d) k (next o p) (next o' q)
next_meets (stops e s) h = stops e s
next_meets (gives f) h = after_meets f (h _ (omega (arith, f.next)))

after_alike : (xs ys : List Item) {o o' : Out} → Alike o o' → Alike (after xs o) (after ys o')
after_alike xs ys (stops e) = stops e
after_alike xs ys (gives k) = gives k

next_alike : {o o' : Out} {p q : ℕ → Out} → Alike o o' → ((l : ℕ) → Alike (p l) (q l)) → Alike (next o p) (next o' q)
next_alike (stops e) h = stops e
next_alike (gives {xs} {ys} k) h = after_alike xs ys (h k)

infixr 40 ◌⨾◌
◌⨾◌ : {j : ℕ} {p q p' q' : Print} → Agree j p q → Agree j p' q' → Agree j (p ⨟ p') (q ⨟ q')
unfolding ◌⨟◌
◌⨾◌ h g = record { at = λ c k l. next_meets (h.at c k l) (λ m i. g.at c m (omega arith)); ends = λ c d k. next_alike (h.ends c d k) (g.ends c d) }

none-agree : {j : ℕ} → Agree j none none
unfolding none
none-agree = record { at = λ c k l. gives nil-fits; ends = λ c d k. gives k }

stopped-agree : {j : ℕ} (e : ℕ) → Agree j (stopped e) (stopped e)
unfolding stopped
stopped-agree e = record { at = λ c k l. stops e ∅; ends = λ c d k. stops e }

says-agree : {j : ℕ} {xs : List Item} → All (Still j) xs → Agree j (says xs) (says xs)
unfolding says
says-agree h = record { at = λ c k l. gives (still-fits (still_le l h)); ends = λ c d k. gives k }

say-agree : {j : ℕ} (x : Item) → Still j x → Agree j (say x) (say x)
unfolding say
say-agree x h = record { at = λ c k l. gives (still-fits (still_le l (h ▹ ∅))); ends = λ c d k. gives k }

-- an item that names no number
own-agree : {j : ℕ} (x : Item) → role x ≡ stays → number_in x ≡ 0 → Agree j (say x) (say x)
own-agree x h e = say-agree x (still x h e)

lit-agree : {j : ℕ} (s : String) → Agree j (lit s) (lit s)
unfolding lit
lit-agree s = own-agree (text (ascii s)) refl refl

when-agree : {j : ℕ} (b : Bool) {p q : Print} → Agree j p q → Agree j (when b p) (when b q)
unfolding when
when-agree true h = h
when-agree false h = none-agree

-- what never stops and has no list
abbrev Quiet : Print → Type 0
Quiet p = (c d : Context) (k : ℕ) → Alike (p c k) (none d k)

one_end : {o o' o'' : Out} → Alike o o'' → Alike o' o'' → Alike o o'
one_end (stops e) (stops n) = stops e
one_end (gives k) (gives n) = gives k

-- printed or not, it never stops and has no list
keeping_quiet : (p : Print) → Quiet p → Quiet (keeping p)
unfolding keeping when
keeping_quiet p h c d k = go (keeps c.mode)
  where
    go : (b : Bool) → Alike (when b p c k) (none d k)
    go true = h c d k
    go false = (none-agree {j = 0}).ends c d k

keeping-agree : {j : ℕ} {p q : Print} → Quiet p → Quiet q → Agree j p q → Agree j (keeping p) (keeping q)
keeping-agree {p = p} {q} x y h = record {
  at = λ c k l. unfold keeping in ((when-agree (keeps c.mode) h).at c k l);
  ends = λ c d k. one_end (keeping_quiet p x c d k) (keeping_quiet q y d d k);
}

mark-fits : (n k : ℕ) → n ≤ 2 * k + 1 → Fits 0 1 k k (mark n ∷ []) (mark n ∷ [])
unfolding puts put sum
mark-fits n k h = record { back = λ s. (s.bodies, refl); next = omega arith; marks = refl; small = record { named = h } ▹ ∅ }

cancel : {k : ℕ} {o o' : Out} → Meets 2 2 k o o' → Meets 0 0 k o o'
cancel (stops e s) = stops e s
cancel (gives f) = gives (record { back = f.back; next = f.next; marks = omega (arith, f.marks); small = f.small })

text-still : {k : ℕ} (s : List ℕ) → All (Still k) (text s ∷ [])
text-still s = still (text s) refl refl ▹ ∅

-- a list's brackets and marks, around one run
brackets_agree : {j : ℕ} (a z : String) (p q : ℕ → Print) → ((k : ℕ) → Inner k (p k) (q k)) → Agree j (Combine.bracketed a z p) (PlainCombine.bracketed a z q)
unfolding ◌⨟◌ with_number lit say Combine.bracketed PlainCombine.bracketed
brackets_agree a z p q h = record {
  at = λ c k i.
      cancel (after_meets (still-fits (text-still (ascii a))) (after_meets (mark-fits (2 * k) k (omega arith)) (next_meets ((h k).at c)
      (λ l m. after_meets (still-fits (text-still (ascii z))) (gives (mark-fits (2 * k + 1) l (omega arith)))))));
  ends = λ c d k. let front = text (ascii a) ∷ [] in let first = mark (2 * k) ∷ [] in
      after_alike front front (after_alike first first (next_alike ((h k).ends c d) (λ l. gives l)));
}

module _ (k : ℕ) (t : Test) (p q : Print) (xs ys : List Item) where
  abbrev once : Print
  once = Print.shared k t p (says xs) (says ys)

  abbrev both : Print
  both = Plain.twice k t q (says xs) (says ys)

  shared-meets : Below k (if_test t) → All (Still k) xs → All (Still k) ys → Agree k p q → (c : Context) → Meets 2 0 k (once c k) (both c k)
  unfolding ◌⨟◌ say says open_run starting_at Print.shared Plain.twice sum
  shared-meets b hx hy h c = go (p c (suc k)) (q c (suc k)) refl refl (h.at c (suc k) (omega arith))
    where
      front : All (Below k) (if_test t ∷ block ∷ newline ∷ run k ∷ [])
      front = b ▹ names block (omega arith) ▹ names newline (omega arith) ▹ names (run k) (omega arith) ▹ ∅

      go : (o o' : Out) → p c (suc k) ≡ o → q c (suc k) ≡ o' → Meets 0 0 (suc k) o o' → Meets 2 0 k (once c k) (both c k)
      go o o' e e' (stops {xs = us} n s) = rw (e, e') (stops n (all_append (below_le (omega arith) front) (below_le (omega arith) s)))
      go o o' e e' (gives f) = simp (e, e', append_assoc) (gives (simp append_assoc at
          (join_fits (still-fits {xs = if_test t ∷ block ∷ newline ∷ []} (record { stay = refl; below = b } ▹ still block refl refl ▹ still newline refl refl ▹ ∅))
          (run_fits {us = block_end ∷ (xs ++ (else_item ∷ ys))} {vs = end_if ∷ []} f (still block_end refl refl ▹ all_append hx (still else_item refl refl ▹ hy)) (still end_if refl refl ▹ ∅)))))

  shared_alike : Agree k p q → (c d : Context) → Alike (once c k) (both d k)
  unfolding ◌⨟◌ say says open_run starting_at Print.shared Plain.twice
  shared_alike h c d = go (p c (suc k)) (q d (suc k)) refl refl (h.ends c d (suc k))
    where
      go : (o o' : Out) → p c (suc k) ≡ o → q d (suc k) ≡ o' → Alike o o' → Alike (once c k) (both d k)
      go o o' e e' (stops n) = rw (e, e') (stops n)
      go o o' e e' (gives l) = simp (e, e') (gives l)

  shared-inner : Below k (if_test t) → All (Still k) xs → All (Still k) ys → Agree k p q → Inner k once both
  shared-inner b hx hy h = record { at = shared-meets b hx hy h; ends = shared_alike h }

comments-agree : {j : ℕ} (loc : Location) (xs : List Part) → Agree j (comments xs loc) (comments xs loc)
unfolding comments
comments-agree loc [] = none-agree
comments-agree {j} loc (x ∷ xs) = says-agree (comment-all (Still j) (still newline refl refl) (still tab refl refl) (λ s. still (text s) refl refl) x.kind x.text loc) ⨾ comments-agree loc xs

comments_quiet : (loc : Location) (xs : List Part) → Quiet (comments xs loc)
unfolding comments none ◌⨟◌ says
comments_quiet loc [] c d k = gives k
comments_quiet loc (x ∷ xs) c d k = after_alike _ [] (comments_quiet loc xs c d k)

-- comments that are kept
kept-agree : {j : ℕ} (loc : Location) (xs : List Part) → Agree j (keeping (comments xs loc)) (keeping (comments xs loc))
kept-agree loc xs = keeping-agree (comments_quiet loc xs) (comments_quiet loc xs) (comments-agree loc xs)

newline-agree : {j : ℕ} (b : Bool) → Agree j (Combine.newline_if b) (PlainCombine.newline_if b)
newline-agree b = when-agree b (own-agree newline refl refl)

-- what a condition of list j tests
abbrev Tests : ℕ → Test → Type 0
Tests j t = Below j (if_test t)

test_of-tests : (b : Bool) (k : ℕ) → Tests k (Combine.test_of b k)
unfolding Combine.test_of
test_of-tests true k = record { named = omega arith }
test_of-tests false k = record { named = omega arith }

test_of-same : (b : Bool) (k : ℕ) → PlainCombine.test_of b k ≡ Combine.test_of b k
unfolding Combine.test_of PlainCombine.test_of
test_of-same true k = refl
test_of-same false k = refl

either-agree : {j : ℕ} (t : Test) → Tests j t → {p q p' q' : Print} → Agree j p q → Agree j p' q' → Agree j (Combine.either t p p') (PlainCombine.either t q q')
either-agree t b h g = say-agree (if_test t) (record { stay = refl; below = b }) ⨾ h ⨾ own-agree else_item refl refl ⨾ g ⨾ own-agree end_if refl refl

only_if-agree : {j : ℕ} (t : Test) → Tests j t → {p q : Print} → Agree j p q → Agree j (Combine.only_if t p) (PlainCombine.only_if t q)
only_if-agree t b h = say-agree (if_test t) (record { stay = refl; below = b }) ⨾ h ⨾ own-agree end_if refl refl

grouped-agree : {j : ℕ} {p q : Print} → Agree j p q → Agree j (Combine.grouped p) (PlainCombine.grouped q)
grouped-agree h = own-agree group refl refl ⨾ h ⨾ own-agree group_end refl refl

comma-agree : {j : ℕ} (b : Bool) (t : Test) → Tests j t → Agree j (Combine.comma b t) (PlainCombine.comma b t)
unfolding Combine.comma PlainCombine.comma
comma-agree true t h = lit-agree ","
comma-agree false t h = only_if-agree t h (lit-agree ",")

separator-agree : {j : ℕ} (t : Test) → Tests j t → Agree j (Combine.separator t) (PlainCombine.separator t)
separator-agree t h = either-agree t h (own-agree newline refl refl) (own-agree space_or_newline refl refl)

ending-agree : {j : ℕ} (e : Reading.Ending) → Agree j (Combine.ending e) (PlainCombine.ending e)
ending-agree e = newline-agree e.blank_line ⨾ comments-agree end_of_items e.trivia

cond_agree : {j : ℕ} (b : Bool) {p q p' q' : Print} → Agree j p q → Agree j p' q' → Agree j (cond b p p') (cond b q q')
cond_agree true h g = h
cond_agree false h g = g

-- a list whose body agrees
run_agree : {j : ℕ} (a z : String) (many : Bool) (p q : Test → Print) → ((k : ℕ) (t : Test) → Tests k t → Agree k (p t) (q t))
    → Agree j (Combine.bracketed a z λ k. let t = Combine.test_of many k in Print.shared k t (p t) none (lit " ")) (PlainCombine.bracketed a z λ k. let t = PlainCombine.test_of many k in Plain.twice k t (q t) none (lit " "))
unfolding none says lit say
run_agree a z many p q h = brackets_agree a z _ _ (λ k. let t = Combine.test_of many k in let b = test_of-tests many k in
    rw (test_of-same many k) (shared-inner k t _ _ [] (text (ascii " ") ∷ []) b ∅ (text-still (ascii " ")) (h k t b)))

then_inner : (k : ℕ) (p q : Print) {p' q' : Print} → Inner k p q → Agree k p' q' → Inner k (p ⨟ p') (q ⨟ q')
unfolding ◌⨟◌
then_inner k p q h g = record { at = λ c. next_meets (h.at c) (g.at c); ends = λ c d. next_alike (h.ends c d) (g.ends c d) }

signal-agree : {j : ℕ} (x : Signal) → Agree j (say (signal x)) (say (signal x))
signal-agree x = let g = signal_sign x in own-agree (signal x) g.stay g.unnamed

source-agree : {j : ℕ} (a b : Reading.Around) {p q : Print} → Agree j p q → Agree j (Print.source_of a b p) (Plain.source_of a b q)
unfolding Print.source_of Plain.source_of
source-agree (Reading.foreign_at n) t h = stopped-agree n
source-agree (Reading.trivia xs) (Reading.foreign_at n) h = stopped-agree n
source-agree (Reading.trivia xs) (Reading.trivia ys) h = comments-agree above_item xs ⨾ h ⨾ own-agree newline refl refl ⨾ comments-agree end_of_items ys

-- printings of parts that agree make printings of nodes that agree
module _ (pr pr' : ℕ → Print) (same : (n : ℕ) → Agree 0 (pr n) (pr' n)) where
  part-agree : {p q : Print} → Agree 0 p q → (o : Option Part) → Agree 0 (Print.part_or pr p o) (Plain.part_or pr' q o)
  unfolding Print.part_or Plain.part_or
  part-agree h nothing = h
  part-agree h (some x) = same x.number

  each-agree : (c : Class) (front : String) (ended : Bool) (xs : List Part) → Agree 0 (Print.each_of pr c front ended xs) (Plain.each_of pr' c front ended xs)
  unfolding Print.each_of Plain.each_of
  each-agree c front ended [] = none-agree
  each-agree c front ended (x ∷ xs) =
      cond_agree (is c x)
      (when-agree (not (is_nil (ascii front))) (lit-agree front) ⨾ same x.number ⨾ when-agree ended (lit-agree "," ⨾ own-agree newline refl refl) ⨾ each-agree c front ended xs)
      (each-agree c front ended xs)

  what-agree : (xs : List Part) (w : What) → Agree 0 (Print.what pr xs w) (Plain.what pr' xs w)
  unfolding Print.what Plain.what
  what-agree xs (txt a) = lit-agree a
  what-agree xs (bare x) = signal-agree x
  what-agree xs (part w missing) = part-agree (lit-agree missing) (nth w.class w.place xs)
  what-agree xs (opt c) = part-agree none-agree (first c xs)
  what-agree xs (each c front ended) = each-agree c front ended xs
  what-agree xs plus = part-agree none-agree (plus_of xs)

  row-agree : (xs : List Part) (ps : List Piece) → Agree 0 (Print.row pr xs ps) (Plain.row pr' xs ps)
  unfolding Print.row Plain.row
  row-agree xs [] = none-agree
  row-agree xs (p ∷ ps) = when-agree (asked xs p) (what-agree xs p.what) ⨾ row-agree xs ps

  module _ {j : ℕ} (f f' g g' : Bool → Print) (hf : (b : Bool) → Agree j (f b) (f' b)) (hg : (b : Bool) → Agree j (g b) (g' b)) where
    children-agree : (cs : List Reading.Child) → Agree j (Print.children pr f g cs) (Plain.children pr' f' g' cs)
    unfolding Print.children Print.with_comments Plain.children Plain.with_comments
    children-agree [] = none-agree
    children-agree (c ∷ cs) =
        (newline-agree c.blank_line ⨾ comments-agree above_item c.before ⨾ later (same c.value.number) ⨾ hf (Reading.more cs) ⨾ comments-agree item_inline c.inline)
        ⨾ hg (Reading.more cs) ⨾ children-agree cs

  list-agree : (empty a z : String) (r : Reading.Reading) → Agree 0 (Print.list pr empty a z r) (Plain.list pr' empty a z r)
  unfolding Print.list Print.indented Plain.list Plain.indented
  list-agree empty a z (Reading.foreign n) = stopped-agree n
  list-agree empty a z (Reading.read cs e) = cond_agree (Reading.is_empty cs e) (lit-agree empty)
      (run_agree a z (Reading.any_many_lines cs || e.blank_line) _ _ (λ k t b.
      grouped-agree (grouped-agree (children-agree _ _ _ _ (λ m. comma-agree m t b) (λ m. separator-agree t b) cs) ⨾ ending-agree e)))

  arguments-agree : (r : Reading.Reading) → Agree 0 (Print.arguments pr r) (Plain.arguments pr' r)
  unfolding none says say Print.arguments Plain.arguments
  arguments-agree (Reading.foreign n) = stopped-agree n
  arguments-agree (Reading.read cs e) = brackets_agree "(" ")" _ _ (λ k. let b : Tests k (lines (2 * k)) = record { named = omega arith } in
      then_inner k _ _ (shared-inner k (lines (2 * k)) _ _ (newline ∷ []) [] b (still newline refl refl ▹ ∅) ∅
      (grouped-agree (children-agree _ _ _ _ (λ m. comma-agree m (lines (2 * k)) b) (λ m. when-agree m (separator-agree (lines (2 * k)) b)) cs))) (ending-agree e))

  comp_body-agree : (ms : List Reading.Child) (me : Reading.Ending) (r : Reading.Reading) → Agree 0 (Print.comp_body pr ms me r) (Plain.comp_body pr' ms me r)
  unfolding Print.comp_body Print.indented Plain.comp_body Plain.indented
  comp_body-agree ms me (Reading.foreign n) = stopped-agree n
  comp_body-agree ms me (Reading.read cs e) =
      run_agree "{" "}" (Reading.any_many_lines ms || (Reading.any_many_lines cs || (me.blank_line || e.blank_line))) _ _ (λ k t b. grouped-agree (grouped-agree (
      children-agree _ _ _ _ (λ m. only_if-agree t b (lit-agree ",")) (λ m. separator-agree t b) ms ⨾ newline-agree me.blank_line
      ⨾ children-agree _ _ _ _ (λ m. none-agree) (λ m. separator-agree t b) cs) ⨾ ending-agree e))

  comp_of-agree : (xs : List Part) (r : Reading.Reading) → Agree 0 (Print.comp_of pr xs r) (Plain.comp_of pr' xs r)
  unfolding Print.comp_of Plain.comp_of
  comp_of-agree xs (Reading.foreign n) = stopped-agree n
  comp_of-agree xs (Reading.read ms me) = comp_body-agree ms me (Reading.comp_specs me xs)

  comprehension-agree : (n : ℕ) (xs : List Part) (o : Option Part) → Agree 0 (Print.comprehension pr n xs o) (Plain.comprehension pr' n xs o)
  unfolding Print.comprehension Plain.comprehension
  comprehension-agree n xs nothing = stopped-agree n
  comprehension-agree n xs (some x) = comp_of-agree xs (Reading.comp_members x xs)

  binds-agree : (cs : List Reading.Child) (e : Reading.Ending) → Agree 0 (Print.many_binds pr cs e) (Plain.many_binds pr' cs e)
  unfolding Print.many_binds Plain.many_binds
  binds-agree cs e = lit-agree "local" ⨾ own-agree indent refl refl ⨾ own-agree newline refl refl
      ⨾ children-agree _ _ _ _ (λ m. lit-agree ",") (λ m. own-agree newline refl refl) cs ⨾ ending-agree e ⨾ own-agree outdent refl refl

  local-agree : (r : Reading.Reading) → Agree 0 (Print.local_of pr r) (Plain.local_of pr' r)
  unfolding Print.local_of Plain.local_of
  local-agree (Reading.foreign n) = stopped-agree n
  local-agree (Reading.read [] e) = binds-agree [] e
  local-agree (Reading.read (c ∷ []) e) = comments-agree above_item c.before ⨾ lit-agree "local " ⨾ same c.value.number
  local-agree (Reading.read (c ∷ d ∷ cs) e) = binds-agree (c ∷ d ∷ cs) e

  statements-agree : (cs : List Reading.Child) → Agree 0 (Print.statements pr cs) (Plain.statements pr' cs)
  unfolding Print.statements Print.statement Plain.statements Plain.statement
  statements-agree [] = none-agree
  statements-agree (c ∷ cs) = (kept-agree above_item c.before ⨾ same c.value.number ⨾ kept-agree end_of_items c.inline) ⨾ statements-agree cs

  statements_of-agree : (r : Reading.Reading) → Agree 0 (Print.statements_of pr r) (Plain.statements_of pr' r)
  unfolding Print.statements_of Plain.statements_of
  statements_of-agree (Reading.foreign n) = stopped-agree n
  statements_of-agree (Reading.read cs e) = statements-agree cs ⨾ kept-agree end_of_items e.trivia

  values_agree : (cs : List Reading.Child) → Agree 0 (Print.values pr cs) (Plain.values pr' cs)
  unfolding Print.values Plain.values
  values_agree [] = none-agree
  values_agree (c ∷ cs) = same c.value.number ⨾ values_agree cs

  values_of-agree : (r : Reading.Reading) → Agree 0 (Print.values_of pr r) (Plain.values_of pr' r)
  unfolding Print.values_of Plain.values_of
  values_of-agree (Reading.foreign n) = stopped-agree n
  values_of-agree (Reading.read cs e) = values_agree cs

  expression-agree : (xs : List Part) (o : Option Part) → Agree 0 (Print.expression pr xs o) (Plain.expression pr' xs o)
  unfolding Print.expression Plain.expression
  expression-agree xs o =
      statements_of-agree (Reading.between Class.Stmt nothing o nothing xs) ⨾ part-agree (lit-agree "/*missing ExprBase*/") o ⨾ values_of-agree (Reading.between Class.Suffix o nothing nothing xs)

  element-agree : (k n : ℕ) (s below : List ℕ) (xs : List Part) → Agree 0 (Print.element pr k n s below xs) (Plain.element pr' k n s below xs)
  unfolding Print.element Plain.element
  element-agree k n s below xs =
      cond_agree (leb 64 k) (own-agree (text s) refl refl)
      (cond_agree (eqb k 56) (own-agree (text below) refl refl)
      (cond_agree (eqb k 2) (expression-agree xs (first Class.ExprBase xs))
      (cond_agree (eqb k 10) (list-agree "[ ]" "[" "]" (Reading.enclosed Class.Expr Class.LBrack Class.RBrack xs))
      (cond_agree (eqb k 22) (local-agree (Reading.enclosed Class.Bind Class.Local Class.Semi xs) ⨾ lit-agree ";" ⨾ own-agree newline refl refl)
      (cond_agree (eqb k 26) (comprehension-agree n xs (first Class.CompSpec xs))
      (cond_agree (eqb k 27) (list-agree "{ }" "{" "}" (Reading.enclosed Class.Member Class.LBrace Class.RBrace xs))
      (cond_agree (eqb k 47) (arguments-agree (Reading.enclosed Class.Arg Class.LParen Class.RParen xs))
      (row-agree xs (layout k)))))))))

  file-agree : (xs : List Part) (o : Option Part) → Agree 0 (Print.source pr xs o) (Plain.source pr' xs o)
  unfolding Print.source Plain.source
  file-agree xs o = source-agree (Reading.trivia_before o xs) (Reading.trivia_after o xs) (part-agree (lit-agree "/*missing Expr*/") o)

prints-agree : (f : Forest) (n : ℕ) → Agree 0 (Print.prints f n) (Plain.prints f n)
unfolding Print.prints Plain.prints
prints-agree nil n = none-agree
prints-agree (tree e kids rest) n =
    cond_agree (eqb n e.number) (element-agree _ _ (prints-agree kids) e.kind e.number e.text (texts kids) (parts kids)) (prints-agree rest n)

-- Two printings from number k: both stop at one element, or both come to the same number, and what the first gives, put back, is what the second gives.
pub data Same (k : ℕ) : Out → Out → Type 0 where
  stops : {xs ys : List Item} (e : ℕ) → Same k (stop xs e) (stop ys e)
  gives : {xs ys : List Item} {n : ℕ} → put_back xs ≡ ys → n ≡ k + runs_of xs → marks_of xs ≡ 2 * runs_of xs → Same k (ok xs n) (ok ys n)

same : {k : ℕ} {o o' : Out} → Meets 0 0 k o o' → Same k o o'
same (stops e s) = stops e
same (gives f) = gives (ap State.out (f.back nothing_yet).1) f.next (omega (arith, f.marks))

file_same : (f : Forest) → Agree 0 (Print.source_file f) (Plain.plain_file f)
unfolding Print.source_file Plain.plain_file
file_same nil = none-agree
file_same (tree e kids rest) = file-agree _ _ (prints-agree kids) (parts kids) (first Class.Expr (parts kids))

-- the printing with its bodies put back is the plain printing, in every context
pub agree : (f : Forest) (c : Context) (k : ℕ) → Same k (Print.source_file f c k) (Plain.plain_file f c k)
agree f c k = same ((file_same f).at c k (omega arith))

-- where the printing stops, or which number the next list has, does not depend on the context
pub ends_alike : (f : Forest) (c d : Context) (k : ℕ) → Alike (Print.source_file f c k) (Print.source_file f d k)
ends_alike f c d k = one_end ((file_same f).ends c d k) ((file_same f).ends d d k)

small : {k : ℕ} {o o' : Out} → Meets 0 0 k o o' → All (Below (k + runs_of (items_of o))) (items_of o)
small (stops e s) = s
small (gives f) = below_le (omega (arith, f.next)) f.small

-- an item names at most the second mark of the list that would come next, also where the printing stops
pub numbers-small : (f : Forest) (c : Context) → let xs = items_of (Print.source_file f c 0) in All (Below (runs_of xs)) xs
numbers-small f c = below_le (omega arith) (small ((file_same f).at c 0 (omega arith)))
