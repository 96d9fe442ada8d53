-- The gaps of a reading and the reading are one: `pass` reads what the gaps hold.
use mathlib.Core.Path.{◌≡◌, refl, ◌∙◌, sym}
use mathlib.Core.Bool.{Bool, true, false, cond, not, ◌||◌}
use mathlib.Core.Option.{Option, none, some}
use mathlib.Core.List.{List, [], ◌∷◌, ◌++◌, append-nil, append_assoc}
use Rattle.text.specs.Basic.{present}
use Rattle.tree.specs.Tree.{Part}
use Rattle.tree.specs.Class.{is, kinds}
use Rattle.std.specs.declared.ops.ControlFlow.TheVariants.{Continue}
use Rattle.children.specs.declared.turn.Go.TheVariants as Go
use Rattle.children.specs.Reading.{Child, Reading, foreign, Pass, finished, child_from, pass, step, start}
use Rattle.children.specs.Gaps.{Gap, Gaps, breaks, stopped, ending, widen, gaps, turn, trivia_turn, other_turn}
use Rattle.tree.specs.declared.class.Class.{Class}
use Rattle.children.specs.Reading as R
use Rattle.children.specs.Gaps as G

-- a child with more inline trivia
abbrev pub add_all : List Part → Option Child → Option Child
add_all xs none = none
add_all xs (some c) = some (record { blank_line = c.blank_line; many_lines = c.many_lines; before = c.before; value = c.value; inline = c.inline ++ xs })

-- the pass behind a gap
abbrev pub behind_gap : Gap → Pass → Pass
behind_gap g p = record { done = p.done; current = add_all g.inline p.current; waiting = p.waiting ++ g.waiting; started_next = p.started_next; had_some = g.had; trailing = none }

-- the reading that gaps make, from a pass on
unfoldable pub glued : Pass → Gaps → Reading
glued p (stopped g n) = foreign n
glued p (ending g) = finished (behind_gap g p)
glued p (Gaps.child g x gs) = glued (child_from (p.waiting ++ g.waiting) x (behind_gap g p)) gs

-- a pass with no trailing list
abbrev pub passing : List Child → Option Child → List Part → Bool → Bool → Pass
passing ds c ws s h = record { done = ds; current = c; waiting = ws; started_next = s; had_some = h; trailing = none }

glued-widen : (ds : List Child) (c : Option Child) (ws : List Part) (s h s' h' : Bool) (xs ys : List Part) (gs : Gaps)
    → glued (passing ds c ws s h) (widen xs ys gs) ≡ glued (passing ds (add_all xs c) (ws ++ ys) s' h') gs
unfolding glued widen
glued-widen ds none ws s h s' h' xs ys (stopped g n) = refl
glued-widen ds (some c) ws s h s' h' xs ys (stopped g n) = refl
glued-widen ds none ws s h s' h' xs ys (ending g) = rw (append_assoc ws ys g.waiting)
glued-widen ds (some c) ws s h s' h' xs ys (ending g) = rw (append_assoc ws ys g.waiting, append_assoc c.inline xs g.inline)
glued-widen ds none ws s h s' h' xs ys (Gaps.child g x gs) = rw (append_assoc ws ys g.waiting)
glued-widen ds (some c) ws s h s' h' xs ys (Gaps.child g x gs) = rw (append_assoc ws ys g.waiting, append_assoc c.inline xs g.inline)

glued_on : (ds : List Child) (c : Option Child) (ws : List Part) (s h s' h' : Bool) (gs : Gaps)
    → glued (passing ds c ws s h) (widen [] [] gs) ≡ glued (passing ds c ws s' h') gs
glued_on ds none ws s h s' h' gs = rw append-nil at (glued-widen ds none ws s h s' h' [] [] gs)
glued_on ds (some c) ws s h s' h' gs = rw (append-nil ws, append-nil c.inline) at (glued-widen ds (some c) ws s h s' h' [] [] gs)

glued-wait : (ds : List Child) (c : Option Child) (ws : List Part) (s h s' h' : Bool) (x : Part) (gs : Gaps)
    → glued (passing ds c ws s h) (widen [] (x ∷ []) gs) ≡ glued (passing ds c (ws ++ x ∷ []) s' h') gs
glued-wait ds none ws s h s' h' x gs = glued-widen ds none ws s h s' h' [] (x ∷ []) gs
glued-wait ds (some c) ws s h s' h' x gs = rw (append-nil c.inline) at (glued-widen ds (some c) ws s h s' h' [] (x ∷ []) gs)

glued-inline : (ds : List Child) (c : Option Child) (ws : List Part) (s h s' h' : Bool) (x : Part) (gs : Gaps)
    → glued (passing ds c ws s h) (widen (x ∷ []) [] gs) ≡ glued (passing ds (R.add_inline x c) ws s' h') gs
glued-inline ds none ws s h s' h' x gs = rw (append-nil ws) at (glued-widen ds none ws s h s' h' (x ∷ []) [] gs)
glued-inline ds (some c) ws s h s' h' x gs = rw (append-nil ws) at (glued-widen ds (some c) ws s h s' h' (x ∷ []) [] gs)

finished-none : (ds : List Child) (c : Option Child) (ws : List Part) (s h h' : Bool) → finished (passing ds c ws s h) ≡ finished (behind_gap (G.gap_of [] [] h') (passing ds c ws s h))
finished-none ds none ws s h h' = rw (append-nil ws)
finished-none ds (some c) ws s h h' = rw (append-nil ws, append-nil c.inline)

glued-child : (ds : List Child) (c : Option Child) (ws : List Part) (s h : Bool) (x : Part) (gs : Gaps)
    → glued (passing ds c ws s h) (Gaps.child (G.gap_of [] [] h) x gs) ≡ glued (child_from ws x (passing ds c ws s h)) gs
unfolding glued
glued-child ds none ws s h x gs = rw (append-nil ws)
glued-child ds (some c) ws s h x gs = rw (append-nil ws, append-nil c.inline)

-- what waits already, or has no child to belong to
abbrev pub waits : Bool → Option Child → Bool
waits s c = s || not (present c)

module _ (wanted : Class) (loose : Bool) (x : Part) (xs : List Part) where
  -- the law for the elements behind x
  abbrev Behind : Type 0
  Behind = (ds : List Child) (c : Option Child) (ws : List Part) (s h : Bool) → pass wanted loose xs (passing ds c ws s h) ≡ glued (passing ds c ws s h) (gaps (kinds wanted) loose (waits s c) h xs)

  abbrev Here : Type 0
  Here = (ds : List Child) (c : Option Child) (ws : List Part) (s h : Bool) → pass wanted loose (x ∷ xs) (passing ds c ws s h) ≡ glued (passing ds c ws s h) (gaps (kinds wanted) loose (waits s c) h (x ∷ xs))

  at-child : is wanted x ≡ true → Behind → Here
  unfolding pass step gaps turn
  at-child e f ds c ws s h = rw e (f _ (some _) _ _ _ ∙ sym (glued-child ds c ws s h x _))

  at-trivia : is wanted x ≡ false → is Class.Trivia x ≡ true → Behind → Here
  unfolding pass step gaps turn trivia_turn
  at-trivia e t f ds none ws true h = rw (e, t) (f ds none (ws ++ x ∷ []) true true ∙ sym (glued-wait ds none ws true h true true x _))
  at-trivia e t f ds none ws false h = rw (e, t) (f ds none (ws ++ x ∷ []) true true ∙ sym (glued-wait ds none ws false h true true x _))
  at-trivia e t f ds (some c) ws true h = rw (e, t) (f ds (some c) (ws ++ x ∷ []) true true ∙ sym (glued-wait ds (some c) ws true h true true x _))
  at-trivia e t f ds (some c) ws false h = rw (e, t) (go (breaks x) (is Class.SingleLine x))
    where
      go : (b l : Bool) → R.onward
          (cond b (R.on (R.wait x true true (passing ds (some c) ws false h))) (R.on (record { done = ds; current = R.add_inline x (some c); waiting = ws; started_next = l; had_some = true; trailing = none })))
          (passing ds (some c) ws false h) (pass wanted loose xs)
          ≡ glued (passing ds (some c) ws false h) (G.turned (cond b (Continue Go.Wait) (cond l (Continue Go.Last) (Continue Go.Inline))) x false h (λ s h. gaps (kinds wanted) loose s h xs))
      go true l = f ds (some c) (ws ++ x ∷ []) true true ∙ sym (glued-wait ds (some c) ws false h true true x _)
      go false true = f ds (R.add_inline x (some c)) ws true true ∙ sym (glued-inline ds (some c) ws false h true true x _)
      go false false = f ds (R.add_inline x (some c)) ws false true ∙ sym (glued-inline ds (some c) ws false h false true x _)

  at-error : is wanted x ≡ false → is Class.Trivia x ≡ false → is Class.CustomError x ≡ true → Behind → Here
  unfolding pass step gaps turn
  at-error e t r f ds c ws s h = rw (e, t, r) (f ds c (ws ++ x ∷ []) s h ∙ sym (glued-wait ds c ws s h s h x _))

  at_other : is wanted x ≡ false → is Class.Trivia x ≡ false → is Class.CustomError x ≡ false → (b : Bool) → is Class.Separator x ≡ b → Behind → (l : Bool) → loose ≡ l → Here
  unfolding pass step gaps turn other_turn glued
  at_other e t r b q f true k ds c ws s true = rw (e, t, r, k) (finished-none ds c ws s true true)
  at_other e t r b q f true k ds c ws s false = rw (e, t, r, k) (f ds c ws true false ∙ sym (glued_on ds c ws s false true false _))
  at_other e t r true q f false k ds c ws s h = rw (e, t, r, k, q) (f ds c ws s h ∙ sym (glued_on ds c ws s h s h _))
  at_other e t r false q f false k ds c ws s h = rw (e, t, r, k, q) refl

  here : Behind → Here
  here f = go (is wanted x) refl (is Class.Trivia x) refl (is Class.CustomError x) refl
    where
      go : (a : Bool) → is wanted x ≡ a → (b : Bool) → is Class.Trivia x ≡ b → (d : Bool) → is Class.CustomError x ≡ d → Here
      go true e b t d r = at-child e f
      go false e true t d r = at-trivia e t f
      go false e false t true r = at-error e t r f
      go false e false t false r = at_other e t r _ refl f loose refl

-- A reading is its gaps, glued.
pub pass-gaps : (wanted : Class) (loose : Bool) (xs : List Part) (ds : List Child) (c : Option Child) (ws : List Part) (s h : Bool)
    → pass wanted loose xs (passing ds c ws s h) ≡ glued (passing ds c ws s h) (gaps (kinds wanted) loose (waits s c) h xs)
unfolding pass gaps glued
pass-gaps wanted loose [] ds c ws s h = finished-none ds c ws s h h
pass-gaps wanted loose (x ∷ xs) ds c ws s h = here wanted loose x xs (pass-gaps wanted loose xs) ds c ws s h

-- A whole reading with no trailing list.
pub start-gaps : (wanted : Class) (loose : Bool) (xs : List Part) → pass wanted loose xs (start none) ≡ glued (start none) (gaps (kinds wanted) loose true false xs)
start-gaps wanted loose xs = pass-gaps wanted loose xs [] none [] false false
