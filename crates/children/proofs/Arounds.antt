-- The bounds of a reading, and what `foreign_of` finds and the loop of `leading_end` passes.
use mathlib.Core.Path.{◌≡◌, refl, ◌∙◌, sym}
use mathlib.Core.Bool.{Bool, true, false, cond, not, ◌&&◌, ◌||◌}
use mathlib.Core.Option.{Option, none, some}
use mathlib.Core.List.{List, [], ◌∷◌, ◌++◌, append-nil, append_assoc}
use Prim.Native.Nat.{ℕ, ◌<◌, ◌≤◌}
use native.Mathlib.Omega.{arith}
use lib.Dec.{ltb}
use borrow.Author.Tests.{ltb-true, ltb-false}
use Rattle.text.specs.Basic.{present}
use Rattle.tree.specs.Tree.{Part}
use Rattle.tree.specs.declared.class.Class.{Class}
use Rattle.tree.specs.declared.class.Kinds.{Kinds}
use Rattle.std.specs.Prelude as std
use Rattle.std.specs.Prelude.{Some, None, Ok, Err}
use Rattle.std.specs.declared.result.Result.{Result}
use Rattle.numbers.specs.declared.Element.{Element}
use Rattle.tree.specs.Class.{is, of_kind, one_of, number_of, all_of}
use Rattle.tree.specs.Answer.{found}
use Rattle.tree.specs.Index.{Region, kind_at, part_at, parts_from, end_at}
use Rattle.std.specs.List.{find}
use Rattle.tree.proofs.Yielding.{same}
use Rattle.tree.proofs.Siblings.{region-part, parts-over}
use Rattle.children.specs.declared.around.Notes.{Notes}
use Rattle.children.specs.Reading.{up_to, behind_part, up_to_part, between, foreign_at, with_trivia, strict, leading, trivia_before, trivia_after}
use Rattle.children.specs.Stretch.{notes, Jumps, here, Stretch}
use Rattle.children.specs.Between.{from_at, to_at, Ends, Bounded, around_at, leading_to, before_to, Placed, Beside, is_kept, foreign_in, Led}
use Rattle.children.proofs.Walks.{parts_more, all_more}
use Rattle.children.proofs.Among.{Among, among, among_in, among-behind, among-upto, region-behind, region-upto, region-none}
use Rattle.children.proofs.Stretch.{note-kinds, jumps-le, jumps-next, jumps-behind}

-- ---- children_between

module _ {index image : List ℕ} {a b : ℕ} (r : Region image index a b) where
  -- each of these numbers is among the siblings
  abbrev Inside : Option ℕ → Type 0
  Inside s = (j : ℕ) → s ≡ some j → Among r j

  abbrev start-region : (s : Option ℕ) → Inside s → Region image index (from_at index s a) b
  start-region none h = r
  start-region (some j) h = region-behind (h j refl)

  start-reached : (s : Option ℕ) → Inside s → Stretch image index a (from_at index s a)
  start-reached none h = record { n = r.n; table = r.table; upto = r.begins; jumps = here }
  start-reached (some j) h =
      let m : Among r j = h j refl in
      record { n = r.n; table = r.table; upto = r.table.inside j (among_in m); jumps = jumps-next r.table m.jumps (among_in m) }

  from_start : (s : Option ℕ) → Inside s → (x : Option Part) → number_of x ≡ s → behind_part x (parts_from image index a b) ≡ parts_from image index (from_at index s a) b
  from_start s h none e = rw (← e)
  from_start s h (some x) e = rw (← e) (among-behind (h x.number (sym e)))

  -- an end that does not stand before the reading is among its elements
  end-among : (s e : Option ℕ) (h : Inside s) → Inside e → (j : ℕ) → e ≡ some j → from_at index s a ≤ j → Among (start-region s h) j
  end-among none e h g j q l = g j q
  end-among (some i) e h g j q l =
      let m : Among r i = h i refl in
      let k : Among r j = g j q in
      record { jumps = jumps-behind r.table m.jumps k.jumps (omega (arith, r.table.past i (among_in m))); before = k.before }

module _ {index image : List ℕ} {from b : ℕ} (f : Region image index from b) (e : Option ℕ) (h : (j : ℕ) → e ≡ some j → from ≤ j → Among f j) where
  to-region : Region image index from (to_at e from b)
  to-region = go e refl
    where
      at : (j : ℕ) → e ≡ some j → (t : Bool) → ltb j from ≡ t → Region image index from (cond t b j)
      at j q true p = f
      at j q false p = region-upto (h j q (ltb-false j from p))

      go : (o : Option ℕ) → e ≡ o → Region image index from (to_at o from b)
      go none q = f
      go (some j) q = at j q (ltb j from) refl

  to-within : to_at e from b ≤ b
  to-within = go e refl
    where
      at : (j : ℕ) → e ≡ some j → (t : Bool) → ltb j from ≡ t → cond t b j ≤ b
      at j q true p = omega arith
      at j q false p = omega (arith, (h j q (ltb-false j from p)).before)

      go : (o : Option ℕ) → e ≡ o → to_at o from b ≤ b
      go none q = omega arith
      go (some j) q = at j q (ltb j from) refl

  up-to-end : (y : Option Part) → number_of y ≡ e → up_to_part y (parts_from image index from b) ≡ parts_from image index from (to_at e from b)
  up-to-end none q = rw (← q)
  up-to-end (some y) q = rw (← q) (at (ltb y.number from) refl)
    where
      at : (t : Bool) → ltb y.number from ≡ t → up_to y.number (parts_from image index from b) ≡ parts_from image index from (cond t b y.number)
      at true p = region-none y.number f (ltb-true y.number from p)
      at false p = among-upto (h y.number (sym q) (ltb-false y.number from p))

loose_is : (x y : Option Part) {s e : Option ℕ} → number_of x ≡ s → number_of y ≡ e → not (present x || present y) ≡ (not (present s) && not (present e))
loose_is none none p q = rw (← p, ← q)
loose_is none (some y) p q = rw (← p, ← q)
loose_is (some x) y p q = rw (← p)

pub bounded : {index image : List ℕ} {a b : ℕ} {s e : Option ℕ} {from to : ℕ} {u v : Bool} → Ends image index a b s e → from ≡ from_at index s a → to ≡ to_at e from b → u ≡ not (present s) → v ≡ not (present e)
    → Bounded image index a b s e (record { from = from; to = to; loose = u && v })
unfolding between
bounded {index} {image} {a} {b} {s} {e} {from} {to} {u} {v} E p q c d =
    rw (q, p, c, d) (record {
      region = to-region f e g;
      reached = start-reached r s hs;
      within = to-within f e g;
      read = λ wanted x y t i k. rw (from_start r s hs x i, up-to-end f e g y k, loose_is x y i k);
    })
  where
    r : Region image index a b
    r = E.region

    hs : (j : ℕ) → s ≡ some j → Among E.region j
    hs j i = among E.region (E.starts j i)

    f : Region image index (from_at index s a) b
    f = start-region E.region s hs

    g : (j : ℕ) → e ≡ some j → from_at index s a ≤ j → Among (start-region E.region s hs) j
    g = end-among E.region s e hs (λ j i. among E.region (E.ends j i))

-- ---- strict readings around an expression

strict_is : (xs : List Part) → strict xs ≡ around_at (foreign_in xs) (all_of notes xs)
unfolding strict foreign_in is_kept all_of
strict_is [] = refl
strict_is (x ∷ xs) = rw (note-kinds x, strict_is xs) (go (one_of notes x.kind) (is Class.Separator x) (foreign_in xs) (all_of notes xs))
  where
    go : (n s : Bool) (o : Option ℕ) (ys : List Part) → cond n (with_trivia x (around_at o ys)) (cond s (around_at o ys) (foreign_at x.number)) ≡ around_at (cond (n || s) o (some x.number)) (cond n (x ∷ ys) ys)
    go true s none ys = refl
    go true s (some n) ys = refl
    go false true o ys = refl
    go false false o ys = refl

pub kept_is : (k : ℕ) {u v : Bool} {w : Kinds} → w ≡ notes → u ≡ one_of w k → v ≡ of_kind Class.Separator k → (u || v) ≡ is_kept k
unfolding is_kept
kept_is k e p q = rw (p, e, q)

-- notes between two places
placed-notes : {index image : List ℕ} {a b from to : ℕ} → Region image index a b → a ≡ from → b ≡ to → (n : Notes) → ◌≡◌ {A = Result Notes Element} (Ok (record { from = a; to = b })) (Ok n) → Placed image index from to n
placed-notes {a = a} {b = b} r p q n e = let z : record { from = a; to = b } ≡ n = cc in rw (← z) (record { begins = p; ends = q; region = r })

module _ {index image : List ℕ} {a b : ℕ} {f : std.Option Element} (e : found f ≡ foreign_in (parts_from image index a b)) where
  pub strict-stopped : Region image index a b → {x : Element} → f ≡ Some x → Beside image index (strict (parts_from image index a b)) a b (Err x)
  strict-stopped r i = record { region = r; read = strict_is _ ∙ rw (← e, i) refl; placed = λ n k. absurd (let z : ◌≡◌ {A = ℕ} 0 1 = cc in omega arith) }

  pub strict-whole : Region image index a b → f ≡ None → Beside image index (strict (parts_from image index a b)) a b (Ok (record { from = a; to = b }))
  strict-whole r i = record { region = r; read = strict_is _ ∙ rw (← e, i) refl; placed = placed-notes r refl refl }

pub foreign-found : (xs : List Part) → number_of (same (find (λ x. not (is_kept x.kind)) xs)) ≡ foreign_in xs
unfolding foreign_in
foreign-found [] = refl
foreign-found (x ∷ xs) = go (is_kept x.kind) (foreign-found xs)
  where
    go : (t : Bool) → number_of (same (find (λ x. not (is_kept x.kind)) xs)) ≡ foreign_in xs → number_of (same (cond (not t) (Some x) (find (λ x. not (is_kept x.kind)) xs))) ≡ cond t (foreign_in xs) (some x.number)
    go true h = h
    go false h = refl

-- ---- what comes first

pub record Heading (index image : List ℕ) (a b j : ℕ) : Type 0 where
  pub region : Region image index j b
  pub done : Jumps index region.n a j
  pub rest : leading (parts_from image index a b) ≡ all_of notes (parts_from image index a j) ++ leading (parts_from image index j b)
  pub ends : leading_to index a (parts_from image index a b) ≡ leading_to index j (parts_from image index j b)

pub heading_none : {index image : List ℕ} {a b : ℕ} → Region image index a b → Heading index image a b a
unfolding all_of
heading_none {index} {image} {a} r = record { region = r; done = here; rest = rw (parts-over index image a a (omega arith)); ends = refl }

module _ {index image : List ℕ} {a b j : ℕ} (K : Heading index image a b j) where
  led : leading (parts_from image index j b) ≡ [] → leading_to index j (parts_from image index j b) ≡ j → Led image index a b j
  led e f = record {
    ends = sym (K.ends ∙ f);
    region = record { n = K.region.n; table = K.region.table; begins = omega (arith, jumps-le K.region.table K.done, K.region.begins); ends = K.region.begins };
    read = K.rest ∙ rw (e, append-nil (all_of notes (parts_from image index a j)));
  }

  pub heading-all : b ≤ j → Led image index a b j
  unfolding leading leading_to
  heading-all h = led (rw (parts-over index image j b h)) (rw (parts-over index image j b h))

  module _ (lt : j < b) {w : Kinds} {k : ℕ} {t : Bool} (z : w ≡ notes) (p : k ≡ kind_at index j) (q : t ≡ one_of w k) where
    next-is : leading (parts_from image index j b) ≡ cond t (part_at image index j ∷ leading (parts_from image index (end_at index j) b)) []
    unfolding leading
    next-is = rw (region-part K.region lt, note-kinds (part_at image index j), q, z, p)

    to_is : leading_to index j (parts_from image index j b) ≡ cond t (leading_to index (end_at index j) (parts_from image index (end_at index j) b)) j
    unfolding leading_to
    to_is = rw (region-part K.region lt, note-kinds (part_at image index j), q, z, p)

    pub heading-stop : t ≡ false → Led image index a b j
    heading-stop h = led (next-is ∙ rw h) (to_is ∙ rw h)

    noted : t ≡ true → one_of notes (kind_at index j) ≡ true
    noted h = rw (← z, ← p, ← q) h

    pub heading-more : t ≡ true → {next : ℕ} → next ≡ end_at index j → Heading index image a b next
    heading-more h e = rw e (record {
      region = record { n = K.region.n; table = K.region.table; begins = K.region.table.inside j (omega (arith, K.region.ends)); ends = K.region.ends };
      done = jumps-next K.region.table K.done (omega (arith, K.region.ends));
      rest = rw (
        parts_more K.region.table K.done (omega (arith, K.region.ends)),
        all_more notes (parts_from image index a j) (part_at image index j),
        noted h,
        append_assoc,
      ) (K.rest ∙ rw (next-is, h));
      ends = K.ends ∙ to_is ∙ rw h;
    })

-- ---- trivia_before and trivia_after

module _ {index image : List ℕ} {a b : ℕ} {e : std.Option Element} (E : Ends image index a b (found e) none) where
  module _ {n : Element} (q : e ≡ Some n) where
    spot : Among E.region n.0
    spot = among E.region (E.starts n.0 (rw q))

    pub before-region : Region image index a n.0
    before-region = region-upto spot

    pub after-region : {from : ℕ} → from ≡ end_at index n.0 → Region image index from b
    after-region p = rw p (region-behind spot)

    pub before-some : {r : Result Notes Element} → Beside image index (strict (parts_from image index a n.0)) a n.0 r → (x : Option Part) → number_of x ≡ found e → Beside image index (trivia_before x (parts_from image index a b)) a (before_to index (found e) a (parts_from image index a b)) r
    unfolding trivia_before
    before-some h none p = let z : ◌≡◌ {A = ℕ} 0 1 = cc in absurd (omega arith)
    before-some h (some x) p = let m : x.number ≡ n.0 = cc in rw (m, among-upto spot, q) h

    pub after-some : {r : Result Notes Element} {from : ℕ} → from ≡ end_at index n.0 → Beside image index (strict (parts_from image index from b)) from b r → (x : Option Part) → number_of x ≡ found e → Beside image index (trivia_after x (parts_from image index a b)) (from_at index (found e) b) b r
    unfolding trivia_after
    after-some f h none p = let z : ◌≡◌ {A = ℕ} 0 1 = cc in absurd (omega arith)
    after-some f h (some x) p = let m : x.number ≡ n.0 = cc in rw (m, among-behind spot, q, ← f) h

  module _ (q : e ≡ None) where
    pub before-none : {to : ℕ} → Led image index a b to → (x : Option Part) → number_of x ≡ found e → Beside image index (trivia_before x (parts_from image index a b)) a (before_to index (found e) a (parts_from image index a b)) (Ok (record { from = a; to = to }))
    unfolding trivia_before
    before-none l none p = record { region = rw (q, ← l.ends) l.region; read = rw l.read; placed = placed-notes l.region refl (rw q l.ends) }
    before-none l (some x) p = let z : ◌≡◌ {A = ℕ} 0 1 = cc in absurd (omega arith)

    pub after_none : (x : Option Part) → number_of x ≡ found e → Beside image index (trivia_after x (parts_from image index a b)) (from_at index (found e) b) b (Ok (record { from = b; to = b }))
    unfolding trivia_after all_of
    after_none none p = record {
      region = rw q (record { n = E.region.n; table = E.region.table; begins = E.region.ends; ends = E.region.ends });
      read = rw (parts-over index image b b (omega arith));
      placed = placed-notes (record { n = E.region.n; table = E.region.table; begins = E.region.ends; ends = E.region.ends }) (rw q) refl;
    }
    after_none (some x) p = let z : ◌≡◌ {A = ℕ} 0 1 = cc in absurd (omega arith)
