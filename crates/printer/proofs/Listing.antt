-- The laws of lists, comprehensions, locals and expressions: what the printers print, one after the other, is what the definitions say.
use Rattle.std.specs.Prelude.{◌≡◌, ℕ, suc, ◌+◌, ◌*◌, Bool, true, false, not, ◌&&◌, ◌||◌, eqb, List, [], ◌∷◌, length}
use mathlib.Core.Path.{refl, sym, ap, ◌∙◌}
use mathlib.Core.Option.{Option, none as nothing, some}
use Prim.Native.String.{String}
use native.Mathlib.Omega.{arith}
use borrow.Author.Tests.{ne_eqb}
use Rattle.text.specs.Basic.{is_nil}
use Rattle.items.specs.Item.{Test, lines, newline, indent, outdent, mark, group, Print, ◌⨟◌, none, say, stopped, lit, when, with_number}
use Rattle.comments.specs.Comments.{item_inline}
use Rattle.tree.specs.Tree.{Part}
use Rattle.tree.specs.Class.{number_of}
use Rattle.children.specs.declared.survey.Outline.{Outline}
use Rattle.plan.specs.Comments.{comments}
use Rattle.children.specs.Reading.{Child, Ending, Reading, foreign, read, is_empty, any_many_lines, comp_members, comp_specs}
use Rattle.children.specs.Gaps.{Gap}
use Rattle.children.specs.Spans.{gap_at}
use Rattle.children.proofs.Among.{none-some}
use Rattle.printer.specs.declared.lists.Style.TheVariants.{Elements, Arguments, Members, Specs, Binds}
use Rattle.printer.specs.Combine.{grouped, comma, separator, only_if, ending, newline_if, test_of, bracketed}
use Rattle.printer.specs.Print.{shared, indented, children, list, arguments, comp_body, comp_of, comprehension, many_binds, local_of}
use Rattle.printer.specs.Lists.{on_line, behind_it, above, following, ending_of, open_list, end_body, repeat_body, close_bracket, close_list, close_arguments}
use Rattle.printer.proofs.Seq.{seq_assoc, none_first, none_last}
use Rattle.printer.specs.Walked.{around, Outlined}
use Rattle.printer.specs.Reads.{kids_in}

-- a child with what stands before and behind it
pub around_is : (pr : ℕ → Print) (f g : Bool → Print) (a : Gap) (j : ℕ) (b : Gap) (m : Bool) → around pr f g a j b m ≡ above a ⨟ (pr j ⨟ following f g b m)
unfolding around above following
around_is pr f g a j b m = simp seq_assoc

-- what follows a child, by the code's test whether one more does
pub following_is : (f g : Bool → Print) (b : Gap) {t m : Bool} → t ≡ m → following f g b m ≡ f t ⨟ (comments b.inline item_inline ⨟ g t)
unfolding following
following_is f g b e = rw e

-- ---- lists in brackets

-- a list made by with_indent_eoi, one printing after the other
list_flat : (a z : String) (k : ℕ) (t : Test) (p : Print) (e : Ending)
    → (lit a ⨟ (say (mark (2 * k)) ⨟ (indented k t (grouped p) e ⨟ (lit z ⨟ say (mark (2 * k + 1)))))) ≡ open_list a k t ⨟ (say group ⨟ (p ⨟ close_list z k e))
unfolding indented shared open_list close_list end_body repeat_body close_bracket
list_flat a z k t p e = simp (seq_assoc, none_first, none_last)

-- a list of arguments
args_flat : (a z : String) (k : ℕ) (t : Test) (p : Print) (e : Ending)
    → (lit a ⨟ (say (mark (2 * k)) ⨟ ((shared k t (grouped p) (say newline) none ⨟ ending e) ⨟ (lit z ⨟ say (mark (2 * k + 1)))))) ≡ open_list a k t ⨟ (p ⨟ close_arguments z k e)
unfolding shared open_list close_arguments end_body repeat_body close_bracket
args_flat a z k t p e = simp (seq_assoc, none_first, none_last)

-- ---- what a survey says of a list

nil-length : (cs : List Child) → is_nil cs ≡ eqb (length cs) 0
nil-length [] = refl
nil-length (c ∷ cs) = sym (ne_eqb (suc (length cs)) 0 (omega arith))

module _ {index image : List ℕ} {r : Reading} {o : Outline} (x : Outlined image index r o) where
  -- what is behind the last child
  ending-is : x.ending ≡ ending_of image index o
  ending-is = rw (← x.blank, ← x.waits)

  -- a list is empty
  empty-is : is_empty x.kids x.ending ≡ ((eqb o.children 0 && not o.blank) && is_nil (gap_at image index o.last).waiting)
  empty-is = rw (nil-length x.kids, x.count, x.blank, x.waits) (go (eqb o.children 0))
    where
      go : (a : Bool) → (a && (not o.blank && is_nil (gap_at image index o.last).waiting)) ≡ ((a && not o.blank) && is_nil (gap_at image index o.last).waiting)
      go true = refl
      go false = refl

module _ (pr : ℕ → Print) (a b z : String) {r : Reading} where
  pub list-foreign : {n : ℕ} → r ≡ foreign n → list pr a b z r ≡ stopped n
  unfolding list
  list-foreign e = rw e

  module _ {index image : List ℕ} {o : Outline} {t : Bool} (x : Outlined image index r o) (e : t ≡ ((eqb o.children 0 && not o.blank) && is_nil (gap_at image index o.last).waiting)) where
    pub list-empty : t ≡ true → list pr a b z r ≡ lit a
    unfolding list
    list-empty h = rw (x.is, empty-is x, ← e, h)

    pub list_full : t ≡ false → list pr a b z r
        ≡ with_number (λ k. let u = test_of (o.many || o.blank) k in open_list b k u ⨟ (say group ⨟ (children pr (on_line Elements u) (behind_it Elements u) (kids_in r) ⨟ close_list z k (ending_of image index o))))
    unfolding list bracketed on_line behind_it kids_in
    list_full h = rw (x.is, empty-is x, ← e, h) (ap with_number (λ i k. step k i))
      where
        step : (k : ℕ) → (lit b ⨟ (say (mark (2 * k)) ⨟ (indented k (test_of (any_many_lines x.kids || x.ending.blank_line) k) (grouped (children pr (λ m. comma m (test_of (any_many_lines x.kids || x.ending.blank_line) k)) (λ m. separator (test_of (any_many_lines x.kids || x.ending.blank_line) k)) x.kids)) x.ending ⨟ (lit z ⨟ say (mark (2 * k + 1))))))
            ≡ open_list b k (test_of (o.many || o.blank) k) ⨟ (say group ⨟ (children pr (λ m. comma m (test_of (o.many || o.blank) k)) (λ m. separator (test_of (o.many || o.blank) k)) (kids_in (read x.kids x.ending)) ⨟ close_list z k (ending_of image index o)))
        step k = list_flat b z k (test_of (any_many_lines x.kids || x.ending.blank_line) k) _ x.ending ∙ rw (x.many, x.blank, ending-is x) refl

-- ---- arguments

module _ (pr : ℕ → Print) {r : Reading} where
  pub args-foreign : {n : ℕ} → r ≡ foreign n → arguments pr r ≡ stopped n
  unfolding arguments
  args-foreign e = rw e

  pub args-full : {index image : List ℕ} {o : Outline} → Outlined image index r o
      → arguments pr r ≡ with_number (λ k. let u = test_of false k in open_list "(" k u ⨟ (children pr (on_line Arguments u) (behind_it Arguments u) (kids_in r) ⨟ close_arguments ")" k (ending_of image index o)))
  unfolding arguments bracketed on_line behind_it test_of kids_in
  args-full {index} {image} {o} x = rw x.is (ap with_number (λ i k. step k i))
    where
      step : (k : ℕ) → (lit "(" ⨟ (say (mark (2 * k)) ⨟ ((shared k (lines (2 * k)) (grouped (children pr (λ m. comma m (lines (2 * k))) (λ m. when m (separator (lines (2 * k)))) x.kids)) (say newline) none ⨟ ending x.ending) ⨟ (lit ")" ⨟ say (mark (2 * k + 1))))))
          ≡ open_list "(" k (lines (2 * k)) ⨟ (children pr (λ m. comma m (lines (2 * k))) (λ m. when m (separator (lines (2 * k)))) x.kids ⨟ close_arguments ")" k (ending_of image index o))
      step k = args_flat "(" ")" k (lines (2 * k)) _ x.ending ∙ rw (ending-is x) refl

-- ---- object comprehensions

module _ (pr : ℕ → Print) (ps : List Part) where
  -- with one: the reading of its members
  pub comp-members : (n : ℕ) (x : Option Part) {j : ℕ} (r : Reading) → number_of x ≡ some j → ((s : Part) → x ≡ some s → comp_members s ps ≡ r) → comprehension pr n ps x ≡ comp_of pr ps r
  unfolding comprehension
  comp-members n nothing {j} r e f = none-some j e
  comp-members n (some s) r e f = rw (f s refl)

  pub comp-foreign : {n : ℕ} {r : Reading} → r ≡ foreign n → comp_of pr ps r ≡ stopped n
  unfolding comp_of
  comp-foreign e = rw e

  -- the reading of its CompSpecs
  module _ {index image : List ℕ} {r : Reading} {m : Outline} (x : Outlined image index r m) (q : Reading) (e : comp_specs x.ending ps ≡ q) where
    pub specs-foreign : {n : ℕ} → q ≡ foreign n → comp_of pr ps r ≡ stopped n
    unfolding comp_of comp_body
    specs-foreign h = rw (x.is, e, h)

    pub comp-full : {o : Outline} → Outlined image index q o
        → comp_of pr ps r ≡ with_number (λ k. let u = test_of (m.many || (o.many || (m.blank || o.blank))) k in
        open_list "{" k u ⨟ (say group ⨟ (children pr (on_line Members u) (behind_it Members u) (kids_in r) ⨟ (newline_if m.blank ⨟ (children pr (on_line Specs u) (behind_it Specs u) (kids_in q) ⨟ close_list "}" k (ending_of image index o))))))
    unfolding comp_of comp_body bracketed on_line behind_it kids_in
    comp-full {o} y = rw (x.is, e, y.is) (ap with_number (λ i k. step k i))
      where
        test : ℕ → Test
        test k = test_of (any_many_lines x.kids || (any_many_lines y.kids || (x.ending.blank_line || y.ending.blank_line))) k

        step : (k : ℕ) → (lit "{" ⨟ (say (mark (2 * k)) ⨟ (indented k (test k) (grouped (children pr (λ n. only_if (test k) (lit ",")) (λ n. separator (test k)) x.kids ⨟ (newline_if x.ending.blank_line ⨟ children pr (λ n. none) (λ n. separator (test k)) y.kids))) y.ending ⨟ (lit "}" ⨟ say (mark (2 * k + 1))))))
            ≡ open_list "{" k (test_of (m.many || (o.many || (m.blank || o.blank))) k) ⨟ (say group ⨟ (children pr (λ n. only_if (test_of (m.many || (o.many || (m.blank || o.blank))) k) (lit ",")) (λ n. separator (test_of (m.many || (o.many || (m.blank || o.blank))) k)) x.kids ⨟ (newline_if m.blank ⨟ (children pr (λ n. none) (λ n. separator (test_of (m.many || (o.many || (m.blank || o.blank))) k)) y.kids ⨟ close_list "}" k (ending_of image index o)))))
        step k = list_flat "{" "}" k (test k) _ y.ending ∙ rw (seq_assoc, seq_assoc, x.many, y.many, x.blank, y.blank, ending-is y) refl

-- ---- locals

binds_flat : (pr : ℕ → Print) (cs : List Child) (e : Ending) → many_binds pr cs e ≡ (lit "local" ⨟ (say indent ⨟ say newline)) ⨟ (children pr (λ m. lit ",") (λ m. say newline) cs ⨟ (ending e ⨟ say outdent))
unfolding many_binds
binds_flat pr cs e = simp seq_assoc

module _ (pr : ℕ → Print) {r : Reading} where
  pub local-foreign : {n : ℕ} → r ≡ foreign n → local_of pr r ≡ stopped n
  unfolding local_of
  local-foreign e = rw e

  pub local-many : (t : Test) {index image : List ℕ} {o : Outline} → Outlined image index r o → (o.children ≡ 1 → ⊥)
      → local_of pr r ≡ (lit "local" ⨟ (say indent ⨟ say newline)) ⨟ (children pr (on_line Binds t) (behind_it Binds t) (kids_in r) ⨟ (ending (ending_of image index o) ⨟ say outdent))
  unfolding local_of kids_in on_line behind_it
  local-many t {index} {image} {o} x h =
      rw x.is (go x.kids x.count ∙ ap (λ (e : Ending). (lit "local" ⨟ (say indent ⨟ say newline)) ⨟ (children pr (λ m. lit ",") (λ m. say newline) x.kids ⨟ (ending e ⨟ say outdent))) (ending-is x))
    where
      go : (cs : List Child) → length cs ≡ o.children → local_of pr (read cs x.ending) ≡ (lit "local" ⨟ (say indent ⨟ say newline)) ⨟ (children pr (λ m. lit ",") (λ m. say newline) cs ⨟ (ending x.ending ⨟ say outdent))
      go [] e = binds_flat pr [] x.ending
      go (c ∷ []) e = absurd (h (sym e))
      go (c ∷ d ∷ cs) e = binds_flat pr (c ∷ d ∷ cs) x.ending
