-- A reading that is handed a trailing list, by its gaps.
use mathlib.Core.Path.{◌≡◌, ap, refl, ◌∙◌, sym}
use mathlib.Core.Bool.{Bool, true, false, cond}
use mathlib.Core.Option.{none, some}
use mathlib.Core.List.{List, [], ◌∷◌, ◌++◌, append-nil}
use Rattle.tree.specs.Class.{is, kinds}
use Rattle.text.specs.Basic.{is_nil}
use Rattle.tree.specs.Tree.{Part}
use Rattle.children.specs.Reading.{foreign, Pass, pass, step, start}
use Rattle.children.specs.Gaps.{Gaps, widen, gaps, turn, trivia_turn, other_turn}
use Rattle.children.proofs.Glue.{pass-gaps}
use Rattle.children.specs.Whole.{read_from}
use Rattle.tree.specs.declared.class.Class.{Class}
use Rattle.children.specs.Reading as R
use Rattle.children.proofs.Whole.{glued-from, preceded-none}
use Rattle.children.specs.Lead.{leads, child_after, reading_after}
use Rattle.children.proofs.Widening.{widen_none, widen-both}

-- a pass before the first child, with errors that wait
abbrev waiting_pass : List Part → List Part → Bool → Pass
waiting_pass ts ws s = record { done = []; current = none; waiting = ws; started_next = s; had_some = false; trailing = some ts }

after-widen : (ts ws us : List Part) (gs : Gaps) → reading_after ts (widen [] ws (widen [] us gs)) ≡ reading_after ts (widen [] (ws ++ us) gs)
after-widen ts ws us gs = ap (reading_after ts) (widen-both [] ws [] us gs)

after_on : (ts ws : List Part) (gs : Gaps) → reading_after ts (widen [] ws (widen [] [] gs)) ≡ reading_after ts (widen [] ws gs)
after_on ts ws gs = rw (append-nil ws) at (after-widen ts ws [] gs)

module _ (wanted : Class) (loose : Bool) (ts : List Part) (x : Part) (xs : List Part) where
  -- what is claimed of the elements behind x, and of x and those
  abbrev Behind : Type 0
  Behind = (ws : List Part) (s : Bool) → pass wanted loose xs (waiting_pass ts ws s) ≡ reading_after ts (widen [] ws (leads (kinds wanted) loose xs))

  abbrev Here : Type 0
  Here = (ws : List Part) (s : Bool) → pass wanted loose (x ∷ xs) (waiting_pass ts ws s) ≡ reading_after ts (widen [] ws (leads (kinds wanted) loose (x ∷ xs)))

  at-child : is wanted x ≡ true → Here
  unfolding pass step leads turn widen reading_after
  at-child e ws s = rw (e, append-nil ws) (go (is_nil ws))
    where
      go : (b : Bool) → R.onward (cond b (R.on (R.child_from ts x (waiting_pass ts ws s))) (R.Step.foreign_at x.number)) (waiting_pass ts ws s) (pass wanted loose xs) ≡ cond b (read_from (child_after ts x) (gaps (kinds wanted) loose false true xs)) (foreign x.number)
      go true = pass-gaps wanted loose xs [] (some (child_after ts x)) [] false true ∙ glued-from (gaps (kinds wanted) loose false true xs) [] (child_after ts x) false true refl ∙ preceded-none _
      go false = refl

  at-trivia : is wanted x ≡ false → is Class.Trivia x ≡ true → Behind → Here
  unfolding pass step leads turn trivia_turn
  at-trivia e t f ws s = rw (e, t) (f ws s ∙ sym (after_on ts ws _))

  at-error : is wanted x ≡ false → is Class.Trivia x ≡ false → is Class.CustomError x ≡ true → Behind → Here
  unfolding pass step leads turn
  at-error e t r f ws s = rw (e, t, r) (f (ws ++ x ∷ []) s ∙ sym (after-widen ts ws (x ∷ []) _))

  at_other : is wanted x ≡ false → is Class.Trivia x ≡ false → is Class.CustomError x ≡ false → (b : Bool) → is Class.Separator x ≡ b → Behind → (l : Bool) → loose ≡ l → Here
  unfolding pass step leads turn other_turn widen reading_after
  at_other e t r b q f true k ws s = rw (e, t, r, k) (f ws true ∙ sym (after_on ts ws (leads (kinds wanted) loose xs)))
  at_other e t r true q f false k ws s = rw (e, t, r, k, q) (f ws s ∙ sym (after_on ts ws (leads (kinds wanted) loose xs)))
  at_other e t r false q f false k ws s = rw (e, t, r, k, q) refl

  here : Behind → Here
  here f = go (is wanted x) refl (is Class.Trivia x) refl (is Class.CustomError x) refl
    where
      go : (a : Bool) → is wanted x ≡ a → (b : Bool) → is Class.Trivia x ≡ b → (d : Bool) → is Class.CustomError x ≡ d → Here
      go true e b t d r = at-child e
      go false e true t d r = at-trivia e t f
      go false e false t true r = at-error e t r f
      go false e false t false r = at_other e t r _ refl f loose refl

after-all : (wanted : Class) (loose : Bool) (ts : List Part) (xs ws : List Part) (s : Bool) → pass wanted loose xs (waiting_pass ts ws s) ≡ reading_after ts (widen [] ws (leads (kinds wanted) loose xs))
unfolding pass leads widen reading_after
after-all wanted loose ts [] ws s = rw (append-nil ws)
after-all wanted loose ts (x ∷ xs) ws s = here wanted loose ts x xs (after-all wanted loose ts xs) ws s

-- A reading with a trailing list is the reading of its gaps.
pub whole-after : (wanted : Class) (loose : Bool) (ts xs : List Part) → pass wanted loose xs (start (some ts)) ≡ reading_after ts (leads (kinds wanted) loose xs)
whole-after wanted loose ts xs = rw widen_none at (after-all wanted loose ts xs [] false)
