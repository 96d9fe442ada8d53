-- What each step of a planner means for what is seen.
use Rattle.std.specs.Prelude.{◌≡◌, ℕ, zero, suc, ◌+◌, ◌-◌, ◌*◌, ◌/◌, ◌%◌, ◌^◌, ◌<◌, ◌≤◌, min, Bool, true, false, List, [], ◌∷◌, ◌++◌, length, set, Some, None, IsSome, is_some}
use Rattle.std.specs.declared.option.Option.{Option}
use Rattle.std.specs.Borrow.{MutBor}
use mathlib.Core.Path.{refl, sym, ap, ◌∙◌}
use mathlib.Core.Logic.{inl, inr, ⊎_elim}
use mathlib.Core.Bool.{false≢true}
use mathlib.Core.List.{append-nil}
use native.Mathlib.Omega.{arith}
use native.Mathlib.Numerals.{add-one}
use lib.ListN.{length-append, length-set}
use lib.Seq.{get_or-set_same, get_or-set_other}
use Rattle.numbers.specs.declared.Mark.{Mark}
use Rattle.numbers.specs.declared.Element.{Element}
use Rattle.items.specs.declared.Condition.{Condition}
use Rattle.items.specs.declared.Condition.TheVariants.{Always, Lines}
use Rattle.items.specs.declared.Signal.{Signal}
use Rattle.items.specs.declared.Signal.TheVariants.{NewLine, SpaceOrNewLine, Tab, StartIndent, FinishIndent, StartGroup, FinishGroup, StartBlock, FinishBlock, Else, EndIf}
use Rattle.text.specs.Basic.{is_nil, sum}
use Rattle.text.proofs.Lists.{sum-append}
use Rattle.items.specs.Role.{role, is_run, runs_of}
use Rattle.items.specs.Item.{lines, Item, Out, stop, ok, Context, Print, mark, run_end, again, say, says, open_run, stopped, run, if_test, plain_item}
use Rattle.items.specs.Item.{signal, signal_kind, condition_test}
use Rattle.comments.specs.Comments.{Location, above_item, item_inline, end_of_items, comment}
use Rattle.tree.specs.Index.{kind_at}
use Rattle.plan.specs.Words.{word_count}
use Rattle.plan.specs.Ops.{token, note, expand, op_items, coded, operand_limit, decoded, note_kind}
use Rattle.tree.specs.Source.{Source}
use Rattle.plan.proofs.Laws.{seen-going, seen-still, going-full, ended-going, frame-none, frame-both, by}
use Rattle.plan.specs.declared.Halt.TheVariants.{Stopped, Full}
use Rattle.plan.specs.declared.Planner.{Planner}
use Rattle.plan.specs.Plans.{planned, joined, planning, context_at, items_at, told, seen, items_in, Kept, Adds, Plans}
use Rattle.plan.specs.Load.{number_in, load, Carried}
use Rattle.plan.proofs.Loads.{load-append, length-load, weigh-more}
use Rattle.plan.proofs.Still.{comment-still}

is-none : {A : Type 0} (o : Option A) → is_some o ≡ false → o ≡ None
is-none None h = refl
is-none (Some x) h = absurd (false≢true (sym h))

-- ---- operations

-- an operation prints what its kind and operand say
coded-items : (s : Source) (k v : ℕ) → k < 32 → op_items s (coded k v) ≡ expand s k v
unfolding op_items
coded-items s k v h =
    let a : coded k v % 32 ≡ k = omega arith in
    let b : coded k v / 32 ≡ v = omega arith in
    rw (a, b)

decoded-below : (s : Source) (ops : List ℕ) (m x n : ℕ) → n ≤ m → decoded s (set ops m x) n ≡ decoded s ops n
unfolding decoded
decoded-below s ops m x zero h = refl
decoded-below s ops m x (suc n) h = rw (decoded-below s ops m x n (omega arith), get_or-set_other ops m n x 0 (λ e. omega arith))

decoded-more : (s : Source) (ops : List ℕ) (n x : ℕ) → n < length ops → decoded s (set ops n x) (suc n) ≡ decoded s ops n ++ op_items s x
unfolding decoded
decoded-more s ops n x h = rw (decoded-below s ops n x n (omega arith), get_or-set_same ops n x 0 h)

-- ---- what is seen

-- planning that does not go on stays as it is
pub passed : (s : Source) (o : Planner) (q : Print) → true ≡ is_some o.halt → Adds s q o o
passed s o q i = let n = sym i in record { ran = record { got = inl (sym (seen-still s o q n)) }; frame = frame-none o; one = omega arith; within = λ l. l; none = λ m. (refl, refl, refl) }

module _ (s : Source) (o : Planner) (g : false ≡ is_some o.halt) where
  going : o.halt ≡ None
  going = is-none o.halt (sym g)

  never : {A : Type 0} → IsSome o.halt → A
  never n = absurd (false≢true (g ∙ n))

  abbrev filled : Planner
  filled = record { ops = o.ops; halt = Some Full; operations = o.operations; runs = o.runs; mode = o.mode }

  -- items that have no room
  fills : (xs : List Item) → (o.operations ≤ load (items_at s o) → min (length o.ops.now) (2 ^ 32 - 1) ≤ load (items_at s o ++ xs)) → Adds s (says xs) o filled
  unfolding seen told planning joined says
  fills xs f = record {
    ran = record { got = inr (rw going (record { ends = refl; begins = record { more = xs; is = refl }; over = λ k. f (omega (arith, k.few, length-load (items_at s o))) })) };
    frame = record { still = never; before = λ i m. refl; past = λ i m. refl; grown = omega arith; mode = refl; same_ops = refl; lent = refl };
    one = omega arith;
    within = λ l. l;
    none = λ n. (refl, refl, refl);
  }

  -- an array that is full
  pub array-full : (op : ℕ) → length o.ops.now ≤ o.operations → Adds s (says (op_items s op)) o filled
  array-full op l = fills (op_items s op) (λ k. omega (arith, l, k, load-append (items_at s o) (op_items s op)))

  -- an operand that has no room
  pub operand-full : (k v : ℕ) → operand_limit ≤ v → (operand_limit ≤ v → 2 ^ 32 ≤ load (expand s k v)) → Adds s (says (expand s k v)) o filled
  operand-full k v l c = fills (expand s k v) (λ w. omega (arith, load-append (items_at s o) (expand s k v), c l))

  -- room for one more, in the array that is lent
  pub added : (op : ℕ) {m : MutBor (List ℕ)} → o.operations < length o.ops.now → m.ghost_name ≡ o.ops.ghost_name → m.now ≡ set o.ops.now o.operations op
      → Adds s (says (op_items s op)) o (record { ops = m; halt = o.halt; operations = o.operations + 1; runs = o.runs; mode = o.mode })
  unfolding seen told planning joined says
  added op l i j = record {
    ran = record { got = inl (rw (going, add-one o.operations, j, decoded-more s o.ops.now o.operations op l) refl) };
    frame = record {
      still = never;
      before = λ i k. rw j (get_or-set_other o.ops.now o.operations i op 0 (λ w. omega arith));
      past = λ i k. rw j (get_or-set_other o.ops.now o.operations i op 0 (λ w. omega arith));
      grown = omega arith;
      mode = refl;
      same_ops = rw j (length-set o.ops.now o.operations op);
      lent = i;
    };
    one = omega arith;
    within = λ w. rw j (omega (arith, l, length-set o.ops.now o.operations op));
    none = never;
  }

  -- planning stops
  pub stopping : (e : Element) → Adds s (stopped e.0) o (record { ops = o.ops; halt = Some (Stopped e); operations = o.operations; runs = o.runs; mode = o.mode })
  unfolding seen told planning joined stopped
  stopping e = record {
    ran = record { got = inl (rw (going, append-nil (items_at s o)) refl) };
    frame = record { still = never; before = λ i m. refl; past = λ i m. refl; grown = omega arith; mode = refl; same_ops = refl; lent = refl };
    one = omega arith;
    within = λ l. l;
    none = λ n. (refl, refl, refl);
  }

-- ---- runs

-- the run of the next list, which is to be begun
module _ (s : Source) (o : Planner) (g : false ≡ is_some o.halt) {a : Planner} (p : Adds s (says (run o.runs ∷ [])) o a) where
  -- it begins
  pub opened : is_some a.halt ≡ false → Adds s open_run o (record { ops = a.ops; halt = a.halt; operations = a.operations; runs = o.runs + 1; mode = a.mode })
  unfolding seen told planning joined says open_run
  opened f = record {
    ran = record { got = inl (⊎_elim begun (λ d. absurd (going-full s a goes d.ends)) p.ran.got) };
    frame = frame-both p.frame (record { still = ends; before = λ i l. refl; past = λ i l. refl; grown = omega arith; mode = refl; same_ops = refl; lent = refl });
    one = p.one;
    within = p.within;
    none = ends;
  }
    where
      goes : a.halt ≡ None
      goes = is-none a.halt f

      ends : {A : Type 0} → IsSome a.halt → A
      ends n = absurd (false≢true (ap is_some (sym goes) ∙ n))

      begun : seen s a ≡ planning (says (run o.runs ∷ [])) (seen s o) → seen s (record { ops = a.ops; halt = a.halt; operations = a.operations; runs = o.runs + 1; mode = a.mode }) ≡ planning open_run (seen s o)
      begun d =
          let i : items_at s a ≡ items_at s o ++ (run o.runs ∷ []) = ap items_in (sym (seen-going s a goes) ∙ d ∙ ap (planning (says (run o.runs ∷ []))) (seen-going s o (going s o g))) in
          rw (goes, going s o g, i, p.frame.mode, add-one o.runs) refl

  -- there was no room for it
  pub unopened : IsSome a.halt → Adds s open_run o a
  unfolding planning joined says open_run
  unopened n = record {
    ran = record { got = inr (⊎_elim (λ d. absurd (ended-going s a n (d ∙ ap (planning (says (run o.runs ∷ []))) (seen-going s o (going s o g))))) (λ d. record { ends = d.ends; begins = rw same at d.begins; over = λ v. rw same at (d.over v) }) p.ran.got) };
    frame = p.frame;
    one = p.one;
    within = p.within;
    none = p.none;
  }
    where
      same : items_in (planning (says (run o.runs ∷ [])) (seen s o)) ≡ items_in (planning open_run (seen s o))
      same = rw (seen-going s o (going s o g)) refl

-- ---- operands

one-far : (x : Item) → operand_limit ≤ number_in x → 2 ^ 32 ≤ load (x ∷ [])
unfolding load sum
one-far x l = omega (arith, weigh-more x l)

module _ (s : Source) (v : ℕ) where
  carried-low : (k : ℕ) → v < operand_limit → runs_of (expand s k v) ≡ 0 → 1 ≤ length (expand s k v) → Carried s k v
  carried-low k l c d = record { far = λ m. absurd (omega arith); calm = c; some = d }

  pub carried-word : v < word_count → Carried s 1 v
  unfolding expand plain_item sum
  carried-word l = carried-low 1 (omega arith) refl (omega arith)

  pub carried-always : v < word_count → Carried s 15 v
  unfolding expand plain_item sum
  carried-always l = carried-low 15 (omega arith) refl (omega arith)

  pub carried-signal : (x : Signal) {k : ℕ} → k ≡ signal_kind x → v < word_count → Carried s k v
  unfolding expand plain_item sum
  carried-signal x e l = rw e (let (a, b) = go x in carried-low (signal_kind x) (omega arith) a b)
    where
      go : (x : Signal) → (runs_of (expand s (signal_kind x) v) ≡ 0) × (1 ≤ length (expand s (signal_kind x) v))
      go NewLine = (refl, omega arith)
      go SpaceOrNewLine = (refl, omega arith)
      go Tab = (refl, omega arith)
      go StartIndent = (refl, omega arith)
      go FinishIndent = (refl, omega arith)
      go StartGroup = (refl, omega arith)
      go FinishGroup = (refl, omega arith)
      go StartBlock = (refl, omega arith)
      go FinishBlock = (refl, omega arith)
      go Else = (refl, omega arith)
      go EndIf = (refl, omega arith)

  pub carried-token : v < operand_limit → Carried s 0 v
  unfolding expand plain_item sum
  carried-token l = carried-low 0 l refl (omega arith)

  pub carried-mark : Carried s 7 v
  unfolding expand plain_item sum
  carried-mark = record { far = λ l. one-far (mark v) l; calm = refl; some = omega arith }

  pub carried-end : Carried s 13 v
  unfolding expand plain_item sum
  carried-end = record { far = λ l. one-far (run_end v) l; calm = refl; some = omega arith }

  pub carried-again : Carried s 14 v
  unfolding expand plain_item sum
  carried-again = record { far = λ l. one-far (again v) l; calm = refl; some = omega arith }

  pub carried-lines : Carried s 18 v
  unfolding expand plain_item sum
  carried-lines = record { far = λ l. one-far (if_test (lines v)) l; calm = refl; some = omega arith }

  -- a comment with items
  pub carried-note : (l : Location) {k j : ℕ} {t : List ℕ} {b : Bool} → k ≡ note_kind l → v < operand_limit → j ≡ kind_at s.index v → t ≡ token s v → b ≡ is_nil (comment j t l) → b ≡ false → Carried s k v
  unfolding expand plain_item
  carried-note l {k} {j} {t} {b} e m f g n z = rw e (go l (some (note s v l) (rw (f, g) at (sym n ∙ z))) (comment-still _ _ l))
    where
      some : (xs : List Item) → is_nil xs ≡ false → 1 ≤ length xs
      some [] h = absurd (false≢true (sym h))
      some (x ∷ xs) h = omega arith

      go : (l : Location) → 1 ≤ length (note s v l) → runs_of (note s v l) ≡ 0 → Carried s (note_kind l) v
      go above_item h c = carried-low 19 m c h
      go item_inline h c = carried-low 20 m c h
      go end_of_items h c = carried-low 21 m c h

-- ---- what planners keep

-- a printing numbers its runs from k on, and prints something
abbrev Numbered : ℕ → Out → Type 0
Numbered k (stop xs e) = Unit {0}
Numbered k (ok xs n) = (n ≡ k + runs_of xs) × (1 ≤ length xs)

plans : {s : Source} {q : Print} {o a : Planner} → ((c : Context) (k : ℕ) → Numbered k (q c k)) → Adds s q o a → Plans s q o a
unfolding planning joined
plans {s} {q} {o} {a} n h = record { ran = h.ran; frame = h.frame; tidy = λ k. let (r, f) = kept k (is_some o.halt) refl (is_some a.halt) refl in record { runs = r; few = f }; within = h.within }
  where
    more : a.operations ≤ suc o.operations → Kept s o → (x : Out) → Numbered o.runs x → planned (items_at s a) (context_at a) a.runs ≡ joined (items_at s o) (context_at o) x → (a.runs ≡ runs_of (items_at s a)) × (a.operations ≤ length (items_at s a))
    more l k (stop ys e) m d = absurd (let z : ◌≡◌ {A = ℕ} 0 1 = cc in omega arith)
    more l k (ok ys i) m d =
        let x : items_at s a ≡ items_at s o ++ ys = cc in
        let y : a.runs ≡ i = cc in
        rw x (omega (arith, y, m.0, k.runs, sum-append (λ x. is_run (role x)) (items_at s o) ys), omega (arith, m.1, k.few, length-append (items_at s o) ys))

    kept : Kept s o → (b : Bool) → is_some o.halt ≡ b → (c : Bool) → is_some a.halt ≡ c → (a.runs ≡ runs_of (items_at s a)) × (a.operations ≤ length (items_at s a))
    kept k true e c f = rw (h.frame.still e) (k.runs, k.few)
    kept k false e true f = let (x, y, z) = h.none f in rw (x, y, z) (k.runs, k.few)
    kept k false e false f =
        let going = seen-going s a (is-none a.halt f) in
        ⊎_elim (λ d. more h.one k (q (context_at o) o.runs) (n (context_at o) o.runs) (sym going ∙ d ∙ ap (planning q) (seen-going s o (is-none o.halt e)))) (λ d. absurd (going-full s a (is-none a.halt f) d.ends)) h.ran.got

pub carried_planned : (s : Source) (k v : ℕ) {o a : Planner} → Carried s k v → Adds s (says (expand s k v)) o a → Plans s (says (expand s k v)) o a
unfolding says
carried_planned s k v c h = plans (λ d i. (omega (arith, c.calm), c.some)) h

pub open_planned : (s : Source) {o a : Planner} → Adds s open_run o a → Plans s open_run o a
unfolding open_run sum
open_planned s h = plans (λ c i. (omega arith, omega arith)) h

pub stop-planned : (s : Source) (e : ℕ) {o a : Planner} → Adds s (stopped e) o a → Plans s (stopped e) o a
unfolding stopped
stop-planned s e h = plans (λ c i. tt) h

-- ---- operations by their kinds

pub coded-planned : (s : Source) (k v : ℕ) {o a : Planner} → k < 32 → Adds s (says (op_items s (k + 32 * v))) o a → Adds s (says (expand s k v)) o a
coded-planned s k v l h = rw (coded-items s k v l) at h

pub signal-planned : (s : Source) (x : Signal) (k : ℕ) {o a : Planner} → k ≡ signal_kind x → Plans s (says (expand s k 0)) o a → Plans s (say (signal x)) o a
unfolding say says expand plain_item
signal-planned s x k e h = by (signal-is x) (rw e at h)
  where
    signal-is : (x : Signal) → say (signal x) ≡ says (expand s (signal_kind x) 0)
    signal-is NewLine = refl
    signal-is SpaceOrNewLine = refl
    signal-is Tab = refl
    signal-is StartIndent = refl
    signal-is FinishIndent = refl
    signal-is StartGroup = refl
    signal-is FinishGroup = refl
    signal-is StartBlock = refl
    signal-is FinishBlock = refl
    signal-is Else = refl
    signal-is EndIf = refl

pub note-planned : (s : Source) (l : Location) (k v : ℕ) {o a : Planner} → k ≡ note_kind l → Plans s (says (expand s k v)) o a → Plans s (says (note s v l)) o a
unfolding expand plain_item
note-planned s l k v e h = by (ap says (note-is l)) (rw e at h)
  where
    note-is : (l : Location) → note s v l ≡ expand s (note_kind l) v
    note-is above_item = refl
    note-is item_inline = refl
    note-is end_of_items = refl

pub always-planned : (s : Source) (t : Condition) {o a : Planner} → t ≡ Always → Plans s (says (expand s 15 0)) o a → Plans s (say (if_test (condition_test t))) o a
unfolding say says expand plain_item
always-planned s t e h = rw e h

pub lines-planned : (s : Source) (t : Condition) (m : Mark) {o a : Planner} → t ≡ Lines m → Plans s (says (expand s 18 m.0)) o a → Plans s (say (if_test (condition_test t))) o a
unfolding say says expand plain_item
lines-planned s t m e h = rw e h

-- a list's number that has no room
pub overrun : (s : Source) (o : Planner) (g : false ≡ is_some o.halt) → operand_limit ≤ o.runs → Adds s open_run o (filled s o g)
unfolding expand plain_item
overrun s o g l = unopened s o g (operand-full s o g 12 o.runs l (λ m. one-far (run o.runs) m)) refl
