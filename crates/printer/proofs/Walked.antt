-- A reading's children are printed by walking its gaps, and what a step of the walk is over spans.
use Rattle.std.specs.Prelude.{◌≡◌, ℕ, Bool, true, false, cond, List, [], ◌∷◌, length}
use mathlib.Core.Path.{refl, ◌∙◌, sym}
use mathlib.Core.Bool.{false≢true}
use native.Mathlib.Omega.{arith}
use Rattle.text.specs.Basic.{is_nil}
use Rattle.items.specs.Item.{Print, ◌⨟◌, none}
use Rattle.tree.specs.Tree.{Part}
use Rattle.tree.specs.declared.class.Kinds.{Kinds}
use Rattle.tree.specs.Index.{end_at, parts_from, part_at}
use Rattle.children.specs.declared.gap.End.{End}
use Rattle.children.specs.declared.gap.Span.{Span}
use Rattle.children.specs.declared.survey.Outline.{Outline}
use Rattle.children.specs.Reading.{Child, Ending, Reading, foreign, read, more, any_many_lines}
use Rattle.children.specs.Gaps.{Gap, gap_of, Gaps, gaps, is_child, is_foreign, ended_by}
use Rattle.children.specs.Gaps as G
use Rattle.children.specs.Whole.{child_at, closed_by, preceded, read_from, reading_of, sums_of}
use Rattle.children.specs.Lead.{child_after, reading_after, lead_at, led}
use Rattle.children.specs.Spans.{gap_at, spanned, Spans, Outlines, surveyed}
use Rattle.printer.specs.Print.{with_comments, children, statement, statements, values}
use Rattle.printer.proofs.Seq.{seq_assoc}
use Rattle.printer.specs.Walked.{front_of, has_child, Turn, around, stated, alone, walked, walked_after, Outlined}

pub foreign-read : {A : Type 0} {n : ℕ} {cs : List Child} {e : Ending} → foreign n ≡ read cs e → A
foreign-read h = let z : ◌≡◌ {A = ℕ} 0 1 = cc in absurd (omega arith)

-- What stands behind the child c in a reading.
record Split (r : Reading) (c : Child) (cs : List Child) : Type 0 where
  kids : List Child
  ending : Ending
  is : r ≡ read kids ending
  cons : cs ≡ c ∷ kids

split : (c : Child) (r : Reading) {cs : List Child} {e : Ending} → preceded (c ∷ []) r ≡ read cs e → Split r c cs
split c (foreign n) h = foreign-read h
split c (read ds e) h = record { kids = ds; ending = e; is = refl; cons = cc }

-- a reading from a child on has a child
more-from : (gs : Gaps) (c : Child) {cs : List Child} {e : Ending} → read_from c gs ≡ read cs e → more cs ≡ true
unfolding read_from
more-from (G.stopped k n) c h = foreign-read h
more-from (G.ending k) c {cs} h = let q : cs ≡ closed_by c k ∷ [] = cc in rw q
more-from (G.Gaps.child k y gs) c h = rw (split (closed_by c k) (read_from (child_at k y) gs) h).cons

-- Children printed in turn: of a child and those behind it what `one` prints of it, which is its turn, and then those.
pub record InTurn (F : List Child → Print) (turn : Turn) : Type 0 where
  pub one : Child → Bool → Print
  pub nil : F [] ≡ none
  pub cons : (c : Child) (cs : List Child) → F (c ∷ cs) ≡ one c (more cs) ⨟ F cs
  pub own : (k : Gap) (x : Part) (g : Gap) (m : Bool) → one (closed_by (child_at k x) g) m ≡ turn k x.number g m
  pub led : (ts : List Part) (x : Part) (g : Gap) (m : Bool) → one (closed_by (child_after ts x) g) m ≡ turn (gap_of [] ts false) x.number g m

pub children-turn : (pr : ℕ → Print) (f g : Bool → Print) → InTurn (children pr f g) (around pr f g)
unfolding children around with_comments
children-turn pr f g = record { one = λ c m. with_comments pr c (f m) ⨟ g m; nil = refl; cons = λ c cs. sym (seq_assoc _ _ _); own = λ k x h m. refl; led = λ ts x h m. refl }

pub statements_turn : (pr : ℕ → Print) → InTurn (statements pr) (stated pr)
unfolding statements stated statement
statements_turn pr = record { one = λ c m. statement pr c; nil = refl; cons = λ c cs. refl; own = λ k x h m. refl; led = λ ts x h m. refl }

pub values-turn : (pr : ℕ → Print) → InTurn (values pr) (alone pr)
unfolding values alone
values-turn pr = record { one = λ c m. pr c.value.number; nil = refl; cons = λ c cs. refl; own = λ k x h m. refl; led = λ ts x h m. refl }

module _ {F : List Child → Print} {turn : Turn} (t : InTurn F turn) where
  -- the children from one on
  from-read : (gs : Gaps) (c : Child) {cs : List Child} {e : Ending} → read_from c gs ≡ read cs e → F cs ≡ t.one (closed_by c (front_of gs)) (has_child gs) ⨟ walked turn gs
  unfolding read_from walked
  from-read (G.stopped k n) c h = foreign-read h
  from-read (G.ending k) c {cs} h = let q : cs ≡ closed_by c k ∷ [] = cc in rw (q, t.cons, t.nil)
  from-read (G.Gaps.child k y gs) c h =
      let s = split (closed_by c k) (read_from (child_at k y) gs) h in
      rw (s.cons, t.cons, more-from gs (child_at k y) s.is, from-read gs (child_at k y) s.is, t.own k y (front_of gs) (has_child gs))

  -- A reading's children are printed by walking its gaps.
  pub walk-read : (gs : Gaps) {cs : List Child} {e : Ending} → reading_of gs ≡ read cs e → F cs ≡ walked turn gs
  unfolding reading_of walked
  walk-read (G.stopped k n) h = foreign-read h
  walk-read (G.ending k) {cs} h = let q : cs ≡ [] = cc in rw (q, t.nil)
  walk-read (G.Gaps.child k x gs) h = from-read gs (child_at k x) h ∙ rw (t.own k x (front_of gs) (has_child gs))

  -- And so are those of a reading with a trailing list.
  pub walk_after : (ts : List Part) (gs : Gaps) {cs : List Child} {e : Ending} → reading_after ts gs ≡ read cs e → F cs ≡ walked_after turn ts gs
  unfolding reading_after walked_after
  walk_after ts (G.stopped k n) h = foreign-read h
  walk_after ts (G.ending k) {cs} h = let q : cs ≡ [] = cc in rw (q, t.nil)
  walk_after ts (G.Gaps.child k x gs) {cs} {e} h = go (is_nil k.waiting) h
    where
      go : (b : Bool) → cond b (read_from (child_after ts x) gs) (foreign x.number) ≡ read cs e → F cs ≡ turn (gap_of [] ts false) x.number (front_of gs) (has_child gs) ⨟ walked turn gs
      go true h = from-read gs (child_after ts x) h ∙ rw (t.led ts x (front_of gs) (has_child gs))
      go false h = foreign-read h

module _ {index image : List ℕ} {o : Outline} {t : Bool} (i : t ≡ is_foreign o.last.end) where
  -- a reading that ends is read
  pub outlined : (r : Reading) → Outlines image index (sums_of r) o → t ≡ false → Outlined image index r o
  unfolding sums_of surveyed
  outlined (foreign n) h e = absurd (false≢true (sym e ∙ i ∙ rw h.ends))
  outlined (read cs k) h e =
      let q : G.sums (length cs) (any_many_lines cs) k.blank_line k.trivia ≡ G.sums o.children o.many o.blank (gap_at image index o.last).waiting = rw h.ends at h.read in
      record { kids = cs; ending = k; is = refl; count = cc; many = cc; blank = cc; waits = cc }

  -- one that does not end stops at a foreign element
  pub outlined-foreign : (r : Reading) → Outlines image index (sums_of r) o → t ≡ true → r ≡ foreign o.last.to
  unfolding sums_of surveyed
  outlined-foreign (foreign n) h e =
      let q : G.Sums.foreign_at n ≡ G.Sums.foreign_at o.last.to = rw h.ends at h.read in
      let m : n ≡ o.last.to = cc in
      rw m
  outlined-foreign (read cs k) h e = absurd (false≢true (sym (i ∙ rw h.ends) ∙ e))

-- ---- a gap by what ends it

child_by : (d : End) (a : Gap) (x : Part) (gs : Gaps) → has_child (ended_by d a x gs) ≡ is_child d
child_by End.Child a x gs = refl
child_by End.Last a x gs = refl
child_by End.Foreign a x gs = refl

front_by : (d : End) (a : Gap) (x : Part) (gs : Gaps) → front_of (ended_by d a x gs) ≡ a
front_by End.Child a x gs = refl
front_by End.Last a x gs = refl
front_by End.Foreign a x gs = refl

-- no child, no step
module _ (turn : Turn) (a : Gap) (x : Part) (gs : Gaps) where
  walk-by : (d : End) → is_child d ≡ false → walked turn (ended_by d a x gs) ≡ none
  unfolding walked
  walk-by End.Child h = absurd (false≢true (sym h))
  walk-by End.Last h = refl
  walk-by End.Foreign h = refl

  after-by : (ts : List Part) (d : End) → is_child d ≡ false → walked_after turn ts (ended_by d a x gs) ≡ none
  unfolding walked_after
  after-by ts End.Child h = absurd (false≢true (sym h))
  after-by ts End.Last h = refl
  after-by ts End.Foreign h = refl

module _ (index image : List ℕ) (w : Kinds) (loose : Bool) (b : ℕ) (s : Span) where
  -- a span with a child
  opened : s.end ≡ End.Child → spanned image index w loose b s ≡ G.Gaps.child (gap_at image index s) (part_at image index s.to) (gaps w loose false true (parts_from image index (end_at index s.to) b))
  unfolding spanned
  opened e = rw e

  -- whether it has one
  tested : has_child (spanned image index w loose b s) ≡ is_child s.end
  unfolding spanned
  tested = child_by s.end _ _ _

  -- its gap is the first
  fronted : front_of (spanned image index w loose b s) ≡ gap_at image index s
  unfolding spanned
  fronted = front_by s.end _ _ _

  led-opened : s.end ≡ End.Child → led image index w loose b s ≡ G.Gaps.child (lead_at image index s) (part_at image index s.to) (gaps w loose false true (parts_from image index (end_at index s.to) b))
  unfolding led
  led-opened e = rw e

  module _ (turn : Turn) {t : Bool} (i : t ≡ is_child s.end) (h : t ≡ false) where
    pub walk_none : walked turn (spanned image index w loose b s) ≡ none
    unfolding spanned
    walk_none = walk-by turn _ _ _ s.end (sym i ∙ h)

    pub lead-none : (ts : List Part) → walked_after turn ts (led image index w loose b s) ≡ none
    unfolding led
    lead-none ts = after-by turn _ _ _ ts s.end (sym i ∙ h)

module _ {index image : List ℕ} {w : Kinds} {loose : Bool} {b next : ℕ} {t : Span} (s : Span) (e : s.end ≡ End.Child) (q : next ≡ end_at index s.to) (h : Spans image index w loose true next b t) where
  -- a span with a child, and the span behind that child
  stepped : spanned image index w loose b s ≡ G.Gaps.child (gap_at image index s) (part_at image index s.to) (spanned image index w loose b t)
  stepped = opened index image w loose b s e ∙ rw (← q, h.read)

  led-stepped : led image index w loose b s ≡ G.Gaps.child (lead_at image index s) (part_at image index s.to) (spanned image index w loose b t)
  led-stepped = led-opened index image w loose b s e ∙ rw (← q, h.read)

  module _ (turn : Turn) where
    -- a step
    pub walk-next : walked turn (spanned image index w loose b s) ≡ turn (gap_at image index s) s.to (gap_at image index t) (is_child t.end) ⨟ walked turn (spanned image index w loose b t)
    unfolding walked
    walk-next = rw (stepped, fronted index image w loose b t, tested index image w loose b t)

    -- the first step of a reading with a trailing list
    pub walk-lead : (ts : List Part) → walked_after turn ts (led image index w loose b s) ≡ turn (gap_of [] ts false) s.to (gap_at image index t) (is_child t.end) ⨟ walked turn (spanned image index w loose b t)
    unfolding walked_after
    walk-lead ts = rw (led-stepped, fronted index image w loose b t, tested index image w loose b t)
