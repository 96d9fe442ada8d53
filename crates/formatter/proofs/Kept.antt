-- In the keeping mode every comment before, between and behind the statements of an expression is printed, in its order.
use mathlib.Core.Path.{◌≡◌, refl, sym, ◌∙◌}
use mathlib.Core.Bool.{Bool, true, false, cond, not, ◌||◌, false≢true}
use mathlib.Core.Option.{Option, none as nothing, some}
use mathlib.Core.List.{List, [], ◌∷◌, ◌++◌, append-nil, append_assoc}
use Prim.Native.Nat.{ℕ}
use native.Mathlib.Omega.{arith}
use borrow.Author.Tests.{not-true}
use Rattle.text.specs.Basic.{present}
use Rattle.numbers.specs.declared.mode.Mode.TheVariants.{Keeping}
use Rattle.items.specs.Item.{Item, Out, stop, ok, in_mode, Print, after, next, ◌⨟◌, none, says, stopped, when, keeping}
use Rattle.comments.specs.Comments.{Location, above_item, end_of_items, comment, single_line, multi_line, block_of, on_one_line}
use Rattle.tree.specs.Tree.{Part}
use Rattle.tree.specs.declared.class.Class.{Class}
use Rattle.tree.specs.Class.{is, kinds, one_of, of_kind, all_of}
use Rattle.children.specs.Reading.{Child, Ending, Reading, foreign, read, Pass, closed, child_from, wait, add_inline, inline_trivia, take_child, take_trivia, take_other, step, on, foreign_at, onward, pass, start, between, up_to}
use Rattle.plan.specs.Comments.{comments}
use Rattle.printer.specs.Print.{statement, statements, statements_of, expression}
use Rattle.formatter.specs.Kept.{notes_of, noted_items, trivia, Among, end, here, past}
use Rattle.formatter.proofs.Tests.{every, class-all}

-- ---- among

among_none : (ys : List Item) → Among [] ys
among_none [] = end
among_none (y ∷ ys) = past (among_none ys)

among-all : (xs : List Item) → Among xs xs
among-all [] = end
among-all (x ∷ xs) = here (among-all xs)

among-both : {us vs xs ys : List Item} → Among us xs → Among vs ys → Among (us ++ vs) (xs ++ ys)
among-both end k = k
among-both (here h) k = here (among-both h k)
among-both (past h) k = past (among-both h k)

among_trans : {xs ys zs : List Item} → Among xs ys → Among ys zs → Among xs zs
among_trans h end = h
among_trans h (past k) = past (among_trans h k)
among_trans (here h) (here k) = here (among_trans h k)
among_trans (past h) (here k) = past (among_trans h k)

-- ---- what a printing surely prints in the keeping mode

-- Where it comes to its end, its items have xs among them.
data Has (xs : List Item) : Out → Type 0 where
  stops : {ys : List Item} (e : ℕ) → Has xs (stop ys e)
  gives : {ys : List Item} {n : ℕ} → Among xs ys → Has xs (ok ys n)

record Prints (xs : List Item) (p : Print) : Type 0 where
  has : (k : ℕ) → Has xs (p (in_mode Keeping) k)

anything : (p : Print) → Prints [] p
anything p = record { has = λ k. go (p (in_mode Keeping) k) }
  where
    go : (o : Out) → Has [] o
    go (stop ys e) = stops e
    go (ok ys n) = gives (among_none ys)

after-has : {us vs ws : List Item} {o : Out} → Among us ws → Has vs o → Has (us ++ vs) (after ws o)
after-has a (stops e) = stops e
after-has a (gives b) = gives (among-both a b)

next-has : {us vs : List Item} {o : Out} (q : ℕ → Out) → Has us o → ((l : ℕ) → Has vs (q l)) → Has (us ++ vs) (next o q)
next-has q (stops e) h = stops e
next-has q (gives a) h = after-has a (h _)

among : {us ys : List Item} {m : ℕ} {o : Out} → Has us o → o ≡ ok ys m → Among us ys
among (stops d) i = absurd (let z : ◌≡◌ {A = ℕ} 0 1 = cc in omega arith)
among {ys = ys} (gives {ys = zs} a) i = let j : zs ≡ ys = cc in rw (← j) a

infixr 40 ◌⊕◌
◌⊕◌ : {us vs : List Item} {p q : Print} → Prints us p → Prints vs q → Prints (us ++ vs) (p ⨟ q)
unfolding ◌⨟◌
◌⊕◌ {q = q} f g = record { has = λ k. next-has (q (in_mode Keeping)) (f.has k) g.has }

-- ---- the statements of an expression

block-place : (doc now : Bool) (ls : List (List ℕ)) → block_of doc now ls above_item ≡ block_of doc now ls end_of_items
unfolding block_of on_one_line
block-place doc now [] = refl
block-place doc now (l ∷ ls) = refl

-- a comment at the end of items is printed as above an item
end-place : (k : ℕ) (s : List ℕ) → comment k s above_item ≡ comment k s end_of_items
unfolding comment single_line multi_line
end-place k s = rw block-place

noted-append : (xs ys : List Part) → noted_items (xs ++ ys) ≡ noted_items xs ++ noted_items ys
unfolding noted_items
noted-append [] ys = refl
noted-append (x ∷ xs) ys = rw (noted-append xs ys, append_assoc)

notes-both_lem : (cs ds : List Child) (ts : List Part) → notes_of (cs ++ ds) ts ≡ notes_of cs (notes_of ds ts)
unfolding notes_of
notes-both_lem [] ds ts = refl
notes-both_lem (c ∷ cs) ds ts = rw (notes-both_lem cs ds ts)

notes-more : (cs : List Child) (ts us : List Part) → notes_of cs (ts ++ us) ≡ notes_of cs ts ++ us
unfolding notes_of
notes-more [] ts us = refl
notes-more (c ∷ cs) ts us = rw (notes-more cs ts us, append_assoc, append_assoc)

says-printed : (xs : List Item) → Prints xs (says xs)
unfolding says
says-printed xs = record { has = λ k. gives (among-all xs) }

module _ (loc : Location) (same : (k : ℕ) (s : List ℕ) → comment k s above_item ≡ comment k s loc) where
  comments-printed : (xs : List Part) → Prints (noted_items xs) (comments xs loc)
  unfolding noted_items comments
  comments-printed [] = anything none
  comments-printed (x ∷ xs) = rw (same x.kind x.text) (says-printed (comment x.kind x.text loc) ⊕ comments-printed xs)

  kept-printed : (xs : List Part) → Prints (noted_items xs) (keeping (comments xs loc))
  unfolding keeping when
  kept-printed xs = record { has = (comments-printed xs).has }

module _ (pr : ℕ → Print) where
  statements-printed : (cs : List Child) → Prints (noted_items (notes_of cs [])) (statements pr cs)
  unfolding notes_of noted_items statements statement
  statements-printed [] = anything none
  statements-printed (c ∷ cs) =
      rw (noted-append c.before, noted-append c.inline, ← append_assoc (noted_items c.before))
      ((kept-printed above_item (λ k s. refl) c.before ⊕ anything (pr c.value.number) ⊕ kept-printed end_of_items end-place c.inline) ⊕ statements-printed cs)

  left-printed : (cs : List Child) (ts : List Part) → Prints (noted_items (notes_of cs ts)) (statements pr cs ⨟ keeping (comments ts end_of_items))
  left-printed cs ts = rw (notes-more cs [] ts, noted-append (notes_of cs []) ts) (statements-printed cs ⊕ kept-printed end_of_items end-place ts)

  -- in the keeping mode an expression prints all that its reading of statements has read beside them, in its order
  pub statements-kept : (ps : List Part) (base : Option Part) {cs : List Child} {e : Ending} → between Class.Stmt nothing base nothing ps ≡ read cs e
      → (k : ℕ) {xs : List Item} {n : ℕ} → expression pr ps base (in_mode Keeping) k ≡ ok xs n → Among (noted_items (notes_of cs e.trivia)) xs
  statements-kept ps base {cs} {e} h k i = among (printed.has k) i
    where
      printed : Prints (noted_items (notes_of cs e.trivia)) (expression pr ps base)
      printed = unfold expression statements_of in (rw (h, ← append-nil (noted_items (notes_of cs e.trivia))) (left-printed cs e.trivia ⊕ anything _))

-- ---- the tokens of a reading

trivia-append : (xs ys : List Part) → trivia (xs ++ ys) ≡ trivia xs ++ trivia ys
unfolding all_of
trivia-append [] ys = refl
trivia-append (x ∷ xs) ys = rw (trivia-append xs ys) (go (is Class.Trivia x))
  where
    go : (b : Bool) → cond b (x ∷ trivia xs ++ trivia ys) (trivia xs ++ trivia ys) ≡ cond b (x ∷ trivia xs) (trivia xs) ++ trivia ys
    go true = refl
    go false = refl

-- what is printed of the comments stands among what is printed of all
trivia-among : (xs : List Part) → Among (noted_items (trivia xs)) (noted_items xs)
unfolding all_of noted_items
trivia-among [] = end
trivia-among (x ∷ xs) = go (is Class.Trivia x) (trivia-among xs)
  where
    ys : List Item
    ys = comment x.kind x.text above_item

    go : (b : Bool) → Among (noted_items (trivia xs)) (noted_items xs) → Among (noted_items (cond b (x ∷ trivia xs) (trivia xs))) (ys ++ noted_items xs)
    go true h = among-both (among-all ys) h
    go false h = among-both (among_none ys) h

-- what a pass has read beside children
abbrev beside : Pass → List Part
beside p = notes_of (closed p.done p.current) p.waiting

-- No trailing list; and while trivia is inline, none waits.
record Tidy (p : Pass) : Type 0 where
  free : p.trailing ≡ nothing
  inline : p.started_next ≡ false → trivia p.waiting ≡ []

read-foreign : {A : Type 0} {n : ℕ} {cs : List Child} {e : Ending} → foreign n ≡ read cs e → A
read-foreign h = absurd (let z : ◌≡◌ {A = ℕ} 0 1 = cc in omega arith)

-- an element that is no comment
skipped : (x : Part) (xs : List Part) → is Class.Trivia x ≡ false → trivia (x ∷ xs) ≡ trivia xs
unfolding all_of
skipped x xs h = rw h

-- what waits stands behind all else
waited : (x : Part) (a b : Bool) (p : Pass) → trivia (beside (wait x a b p)) ≡ trivia (beside p) ++ trivia (x ∷ [])
waited x a b p = rw (notes-more (closed p.done p.current) p.waiting (x ∷ []), trivia-append)

-- the last child, and what waits behind it
last-notes : (cs : List Child) (d : Child) (ts : List Part) → notes_of (cs ++ d ∷ []) ts ≡ notes_of cs (d.before ++ d.inline) ++ ts
unfolding notes_of
last-notes cs d ts = notes-both_lem cs (d ∷ []) ts ∙ rw (← append_assoc d.before d.inline ts, notes-more)

-- a child takes what waits
opened : (x : Part) (p : Pass) → beside (child_from p.waiting x p) ≡ beside p
opened x p = rw (last-notes, append-nil, append-nil)

-- inline trivia stands behind all else, where no other waits
inlined : (x : Part) (p : Pass) → present p.current ≡ true → trivia p.waiting ≡ [] → trivia (beside (inline_trivia x p)) ≡ trivia (beside p) ++ trivia (x ∷ [])
inlined x p h e = go p.current h
  where
    go : (o : Option Child) → present o ≡ true → trivia (notes_of (closed p.done (add_inline x o)) p.waiting) ≡ trivia (notes_of (closed p.done o) p.waiting) ++ trivia (x ∷ [])
    go nothing h = absurd (false≢true h)
    go (some d) h = rw (
      last-notes p.done d p.waiting,
      last-notes,
      ← append_assoc d.before d.inline (x ∷ []),
      notes-more,
      trivia-append (notes_of p.done (d.before ++ d.inline) ++ (x ∷ [])) p.waiting,
      trivia-append (notes_of p.done (d.before ++ d.inline)) (x ∷ []),
      trivia-append (notes_of p.done (d.before ++ d.inline)) p.waiting,
      e,
      append-nil,
      append-nil,
    )

-- a strict reading of children that are no comments has read every comment, in its order
module _ (c : Class) (apart : (x : Part) → is c x ≡ true → is Class.Trivia x ≡ false) (cs : List Child) (e : Ending) where
  -- of xs, from a pass on
  abbrev Reads : List Part → Pass → Type 0
  Reads xs p = pass c false xs p ≡ read cs e → trivia (notes_of cs e.trivia) ≡ trivia (beside p) ++ trivia xs

  module _ (x : Part) (xs : List Part) (p : Pass) (t : Tidy p) (again : (q : Pass) → Tidy q → Reads xs q) where
    abbrev Goal : Type 0
    Goal = trivia (notes_of cs e.trivia) ≡ trivia (beside p) ++ trivia (x ∷ xs)

    rest : (q : Pass) → trivia (beside q) ≡ trivia (beside p) ++ trivia (x ∷ []) → Tidy q → pass c false xs q ≡ read cs e → Goal
    rest q i u k = again q u k ∙ rw (i, append_assoc, ← trivia-append (x ∷ []) xs)

    waits : pass c false xs (wait x true true p) ≡ read cs e → Goal
    waits k = rest (wait x true true p) (waited x true true p) (record { free = t.free; inline = λ z. absurd (false≢true (sym z)) }) k

    comment-read : (s : Bool) → p.started_next ≡ s → (a : Bool) → present p.current ≡ a → (r : Bool)
        → onward (cond (s || (not a || r)) (on (wait x true true p)) (on (inline_trivia x p))) p (pass c false xs) ≡ read cs e → Goal
    comment-read true i a j r k = waits k
    comment-read false i false j r k = waits k
    comment-read false i true j true k = waits k
    comment-read false i true j false k = rest (inline_trivia x p) (inlined x p j (t.inline i)) (record { free = t.free; inline = λ z. t.inline i }) k

    other-read : is Class.Trivia x ≡ false → (b : Bool) → onward (cond b (on p) (foreign_at x.number)) p (pass c false xs) ≡ read cs e → Goal
    other-read g true k = again p t k ∙ rw (skipped x xs g)
    other-read g false k = read-foreign k

    one-read : (a : Bool) → is c x ≡ a → (b : Bool) → is Class.Trivia x ≡ b → (d : Bool)
        → onward (cond a (take_child x p nothing) (cond b (take_trivia x p nothing) (cond d (on (wait x p.started_next p.had_some p)) (take_other false x p)))) p (pass c false xs) ≡ read cs e → Goal
    unfolding all_of
    one-read true f b g d k = again (child_from p.waiting x p) (record { free = refl; inline = λ z. refl }) k ∙ rw (opened x p, skipped x xs (apart x f))
    one-read false f true g d k = comment-read p.started_next refl (present p.current) refl _ k
    one-read false f false g true k =
        rest (wait x p.started_next p.had_some p) (waited x p.started_next p.had_some p)
        (record { free = t.free; inline = λ z. trivia-append p.waiting (x ∷ []) ∙ rw (t.inline z, skipped x [] g) }) k
    one-read false f false g false k = other-read g (is Class.Separator x) k

    free-read : (o : Option (List Part)) → o ≡ nothing
        → onward (cond (is c x) (take_child x p o) (cond (is Class.Trivia x) (take_trivia x p o) (cond (is Class.CustomError x) (on (wait x p.started_next p.had_some p)) (take_other false x p)))) p (pass c false xs) ≡ read cs e → Goal
    free-read nothing i k = one-read (is c x) refl (is Class.Trivia x) refl (is Class.CustomError x) k
    free-read (some ts) i k = absurd (let z : ◌≡◌ {A = ℕ} 0 1 = cc in omega arith)

  read-trivia : (xs : List Part) (p : Pass) → Tidy p → Reads xs p
  unfolding pass step all_of
  read-trivia [] p t h = let i : closed p.done p.current ≡ cs = cc in let j : p.waiting ≡ e.trivia = cc in rw (← i, ← j, append-nil)
  read-trivia (x ∷ xs) p t h = free-read x xs p t (λ q u k. read-trivia xs q u k) p.trailing t.free h

-- a statement is no comment
apart-stmt : (x : Part) → is Class.Stmt x ≡ true → is Class.Trivia x ≡ false
unfolding every kinds one_of
apart-stmt x h = not-true (is Class.Trivia x) (class-all Class.Stmt (λ k. not (of_kind Class.Trivia k)) refl x.kind h)

-- in the keeping mode an expression prints every comment that stands before its base, in its order: before, between and behind its statements
pub comments_survive : (pr : ℕ → Print) (ps : List Part) (base : Part) (k : ℕ) {xs : List Item} {n : ℕ} → expression pr ps (some base) (in_mode Keeping) k ≡ ok xs n
    → Among (noted_items (trivia (up_to base.number ps))) xs
unfolding expression statements_of stopped ◌⨟◌ between all_of notes_of
comments_survive pr ps base k {xs} {n} h = go (between Class.Stmt nothing (some base) nothing ps) refl
  where
    before : List Part
    before = up_to base.number ps

    go : (r : Reading) → between Class.Stmt nothing (some base) nothing ps ≡ r → Among (noted_items (trivia before)) xs
    go (foreign m) i = absurd (let j : stop [] m ≡ ok xs n = rw i at h in let z : ◌≡◌ {A = ℕ} 0 1 = cc in omega arith)
    go (read cs e) i =
        let t : trivia (notes_of cs e.trivia) ≡ trivia before = read-trivia Class.Stmt apart-stmt cs e before (start nothing) (record { free = refl; inline = λ z. refl }) i in
        among_trans (rw t at (trivia-among (notes_of cs e.trivia))) (statements-kept pr ps (some base) i k h)
