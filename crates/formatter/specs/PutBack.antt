-- 'Putting back: `run` and `run-end` fall away, and `again` k becomes what stood between run k and its run-end, itself put back; all else stays.'
use Rattle.std.specs.Prelude.{cond, List, [], ◌∷◌, ◌++◌, ℕ, eqb}
use Rattle.items.specs.Item.{Item}
use Rattle.items.specs.Role.{Role, stays, marks, opens, closes, repeats, role}

-- A closed run, put back.
pub record Body : Type 0 where
  pub number : ℕ
  pub items : List Item

-- A run that has not ended yet, and what stood before it.
pub record Open : Type 0 where
  pub number : ℕ
  pub before : List Item

-- What stands since the innermost open run began, the open runs, the innermost first, and the runs closed so far, the last first.
pub record State : Type 0 where
  pub out : List Item
  pub outer : List Open
  pub bodies : List Body

-- 'what stood between run k and its run-end, itself put back'
unfoldable pub body_of : ℕ → List Body → List Item
body_of k [] = []
body_of k (b ∷ bs) = cond (eqb k b.number) b.items (body_of k bs)

-- items stay as they are
abbrev pub emit : List Item → State → State
emit xs s = record { out = s.out ++ xs; outer = s.outer; bodies = s.bodies }

-- run k begins: '`run` .. fall away'
abbrev pub opened : ℕ → State → State
opened k s = record { out = []; outer = record { number = k; before = s.out } ∷ s.outer; bodies = s.bodies }

-- the run-end of run k: '`run-end` fall away'. It closes the innermost open run if that is run k ('run k and its run-end'), and no run if not.
unfoldable pub closed : ℕ → List Open → State → State
closed k [] s = s
closed k (r ∷ outer) s =
    cond (eqb k r.number)
    (record { out = r.before ++ s.out; outer = outer; bodies = record { number = r.number; items = s.out } ∷ s.bodies })
    s

-- one item more
unfoldable pub put : Item → Role → State → State
put x stays s = emit (x ∷ []) s
put x marks s = emit (x ∷ []) s
put x (opens k) s = opened k s
put x (closes k) s = closed k s.outer s
put x (repeats k) s = emit (body_of k s.bodies) s

-- all items in turn
unfoldable pub puts : List Item → State → State
puts [] s = s
puts (x ∷ xs) s = puts xs (put x (role x) s)

-- before the first item
abbrev pub nothing_yet : State
nothing_yet = record { out = []; outer = []; bodies = [] }

-- the items with their bodies put back
abbrev pub put_back : List Item → List Item
put_back xs = (puts xs nothing_yet).out
