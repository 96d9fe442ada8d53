-- children.rs: which trivia belongs to which child.
use Rattle.std.specs.Prelude.{Bool, true, false, cond, not, ◌&&◌, ◌||◌, List, [], ◌∷◌, ◌++◌, reverse, ℕ, suc, ◌+◌, leb, eqb}
use Rattle.std.proofs.Math.Option.{Option, none, some}
use Rattle.text.specs.Basic.{is_nil, present, or_else, any, count}
use Rattle.tree.specs.Tree.{Part}
use Rattle.tree.specs.Class.{is, first, last}
use Rattle.tree.specs.declared.class.Class.{Class}

-- `Child`: blank_line is should_start_with_newline, many_lines is triggers_multiline.
pub record Child : Type 0 where
  pub blank_line : Bool
  pub many_lines : Bool
  pub before : List Part
  pub value : Part
  pub inline : List Part

-- `EndingComments`: blank_line is should_start_with_newline.
pub record Ending : Type 0 where
  pub blank_line : Bool
  pub trivia : List Part

-- What a reading gives: the foreign element at which it stops, or its children and what is behind them.
pub data Reading : Type 0 where
  foreign : ℕ → Reading
  read : List Child → Ending → Reading

-- trivia or a custom error: what `ChildTrivia` holds
abbrev pub is_note : Part → Bool
is_note x = is Class.Trivia x || is Class.CustomError x

-- count_newlines_before: 'line feeds of leading whitespace and errors (1 each) up to the first other trivia'
unfoldable pub newlines_before : List Part → ℕ
newlines_before [] = 0
newlines_before (t ∷ ts) =
    cond (eqb t.kind 64) (count 10 t.text + newlines_before ts)
    (cond (is Class.CustomError t) (suc (newlines_before ts)) 0)

-- count_newlines_after, of the list reversed: 'a single-line comment (1, then stop), all others 0'
unfoldable pub newlines_back : List Part → ℕ
newlines_back [] = 0
newlines_back (t ∷ ts) =
    cond (eqb t.kind 64) (count 10 t.text + newlines_back ts)
    (cond (is Class.CustomError t) (suc (newlines_back ts))
    (cond (is Class.SingleLine t) 1 (newlines_back ts)))

-- the inline trivia of the child before, if there is one
abbrev pub inline_of : Option Child → List Part
inline_of none = []
inline_of (some c) = c.inline

-- the sum in should_start_with_newline: behind the child before, and in front of what comes
abbrev pub newlines : Option Child → List Part → ℕ
newlines current before = newlines_before before + newlines_back (reverse (inline_of current))

-- What one pass of `children` carries: out, current_child, next, started_next, had_some, trailing.
pub record Pass : Type 0 where
  pub done : List Child
  pub current : Option Child
  pub waiting : List Part
  pub started_next : Bool
  pub had_some : Bool
  pub trailing : Option (List Part)

-- the children with the current one behind them
abbrev pub closed : List Child → Option Child → List Child
closed cs none = cs
closed cs (some c) = cs ++ c ∷ []

-- the end of `children`
abbrev pub finished : Pass → Reading
finished p = read (closed p.done p.current) (record { blank_line = leb 2 (newlines p.current p.waiting); trivia = p.waiting })

-- the next child: 'A sum of 2 or more asks for a blank line, for a child only if a child or unskipped trivia came before; 1 or more triggers many lines'
abbrev pub child_from : List Part → Part → Pass → Pass
child_from before x p = record {
  done = closed p.done p.current;
  current = some (record {
    blank_line = p.had_some && leb 2 (newlines p.current before);
    many_lines = leb 1 (newlines p.current before);
    before = before;
    value = x;
    inline = [];
  });
  waiting = [];
  started_next = false;
  had_some = true;
  trailing = none;
}

-- trivia or an error that waits for the next child
abbrev pub wait : Part → Bool → Bool → Pass → Pass
wait x started had p = record { done = p.done; current = p.current; waiting = p.waiting ++ x ∷ []; started_next = started; had_some = had; trailing = p.trailing }

-- a child with one inline trivia more
abbrev pub add_inline : Part → Option Child → Option Child
add_inline x none = none
add_inline x (some c) = some (record { blank_line = c.blank_line; many_lines = c.many_lines; before = c.before; value = c.value; inline = c.inline ++ x ∷ [] })

-- inline trivia: 'just after a single-line comment; then all waits'
abbrev pub inline_trivia : Part → Pass → Pass
inline_trivia x p = record { done = p.done; current = add_inline x p.current; waiting = p.waiting; started_next = is Class.SingleLine x; had_some = true; trailing = p.trailing }

-- a foreign element that a loose reading passes over
abbrev pub pass_over : Pass → Pass
pass_over p = record { done = p.done; current = p.current; waiting = p.waiting; started_next = true; had_some = p.had_some; trailing = p.trailing }

-- One element more: another pass, the end of the reading, or a foreign element.
pub data Step : Type 0 where
  on : Pass → Step
  end : Step
  foreign_at : ℕ → Step

-- a child of the reading's class: 'until the first child takes that list', which stops where something waits already
abbrev pub take_child : Part → Pass → Option (List Part) → Step
take_child x p none = on (child_from p.waiting x p)
take_child x p (some ts) = cond (is_nil p.waiting) (on (child_from ts x p)) (foreign_at x.number)

-- trivia: 'inline until a trivia holding a newline that is no single-line comment (that one waits too)'
abbrev pub take_trivia : Part → Pass → Option (List Part) → Step
take_trivia x p (some ts) = on p
take_trivia x p none =
    cond (p.started_next || (not (present p.current) || (leb 1 (count 10 x.text) && not (is Class.SingleLine x))))
    (on (wait x true true p))
    (on (inline_trivia x p))

-- any other element: a loose reading 'ends if a child or trivia came before, else goes on'; 'A strict reading skips only `,` and `;`'
abbrev pub take_other : Bool → Part → Pass → Step
take_other true x p = cond p.had_some end (on (pass_over p))
take_other false x p = cond (is Class.Separator x) (on p) (foreign_at x.number)

-- the body of the loop in `children`; 'A custom error always waits, and changes neither state'
unfoldable pub step : Class → Bool → Part → Pass → Step
step wanted loose x p =
    cond (is wanted x) (take_child x p p.trailing)
    (cond (is Class.Trivia x) (take_trivia x p p.trailing)
    (cond (is Class.CustomError x) (on (wait x p.started_next p.had_some p))
    (take_other loose x p)))

-- on with the other elements, or out of the loop
abbrev pub onward : Step → Pass → (Pass → Reading) → Reading
onward (on q) p go = go q
onward end p go = finished p
onward (foreign_at n) p go = foreign n

-- the loop in `children`
unfoldable pub pass : Class → Bool → List Part → Pass → Reading
pass wanted loose [] p = finished p
pass wanted loose (x ∷ xs) p = onward (step wanted loose x p) p (pass wanted loose xs)

-- the beginning of `children`
abbrev pub start : Option (List Part) → Pass
start trailing = record { done = []; current = none; waiting = []; started_next = false; had_some = false; trailing = trailing }

-- the parts behind the one with this number: 'from just after its start'
unfoldable pub behind : ℕ → List Part → List Part
behind n [] = []
behind n (x ∷ xs) = cond (eqb x.number n) xs (behind n xs)

-- the parts before the one with this number: 'to the next element that is its end'
unfoldable pub up_to : ℕ → List Part → List Part
up_to n [] = []
up_to n (x ∷ xs) = cond (eqb x.number n) [] (x ∷ up_to n xs)

-- 'from just after its start (or the node's first element)'
abbrev pub behind_part : Option Part → List Part → List Part
behind_part none xs = xs
behind_part (some x) xs = behind x.number xs

-- 'to the next element that is its end, or to the node's last'
abbrev pub up_to_part : Option Part → List Part → List Part
up_to_part none xs = xs
up_to_part (some x) xs = up_to x.number xs

-- children_between: 'A reading without start and end is loose'
unfoldable pub between : Class → Option Part → Option Part → Option (List Part) → List Part → Reading
between wanted s e trailing xs = pass wanted (not (present s || present e)) (up_to_part e (behind_part s xs)) (start trailing)

-- children_between for a list: between the first tokens of two classes
abbrev pub enclosed : Class → Class → Class → List Part → Reading
enclosed wanted a z xs = between wanted (first a xs) (first z xs) none xs

-- children_between for the members of an object comprehension, whose first CompSpec is given
abbrev pub comp_members : Part → List Part → Reading
comp_members spec xs = between Class.Member (first Class.LBrace xs) (some spec) none xs

-- children_between for the CompSpecs of an object comprehension: 'its second reading', with the trivia behind the members as its trailing list
abbrev pub comp_specs : Ending → List Part → Reading
comp_specs e xs = between Class.CompSpec (or_else (last Class.MemberComp xs) (first Class.LBrace xs)) (first Class.RBrace xs) (some e.trivia) xs

-- more children follow: has_more
abbrev pub more : List Child → Bool
more cs = not (is_nil cs)

-- a child triggers many lines
abbrev pub any_many_lines : List Child → Bool
any_many_lines cs = any (λ c. c.many_lines) cs

-- children.is_empty() && end_comments.is_empty()
abbrev pub is_empty : List Child → Ending → Bool
is_empty cs e = is_nil cs && (not e.blank_line && is_nil e.trivia)

-- What trivia_before and trivia_after give.
pub data Around : Type 0 where
  foreign_at : ℕ → Around
  trivia : List Part → Around

-- one trivia more in front
abbrev pub with_trivia : Part → Around → Around
with_trivia x (foreign_at n) = foreign_at n
with_trivia x (trivia xs) = trivia (x ∷ xs)

-- trivia_before and trivia_after of an expression: '`trivia_before` and `trivia_after` are strict'
unfoldable pub strict : List Part → Around
strict [] = trivia []
strict (x ∷ xs) = cond (is_note x) (with_trivia x (strict xs)) (cond (is Class.Separator x) (strict xs) (foreign_at x.number))

-- trivia_before 'without an expression the first stops at anything but trivia and errors'
unfoldable pub leading : List Part → List Part
leading [] = []
leading (x ∷ xs) = cond (is_note x) (x ∷ leading xs) []

-- trivia_before of a SourceFile: up to the expression, or 'without an expression'
unfoldable pub trivia_before : Option Part → List Part → Around
trivia_before none xs = trivia (leading xs)
trivia_before (some x) xs = strict (up_to x.number xs)

-- trivia_after of a SourceFile: behind the expression; without one 'the second is empty'
unfoldable pub trivia_after : Option Part → List Part → Around
trivia_after none xs = trivia []
trivia_after (some x) xs = strict (behind x.number xs)
