-- What the calls of a printer leave, put together: the laws that each printer of a list, a comprehension, a local or an expression ends with.
use Rattle.std.specs.Prelude.{◌≡◌, ℕ, ◌+◌, Bool, true, false, not, ◌&&◌, ◌||◌, eqb, List}
use mathlib.Core.Path.{refl, sym, ap, ◌∙◌}
use mathlib.Core.Bool.{false≢true}
use mathlib.Core.Option.{Option, none as nothing, some}
use Prim.Native.String.{String}
use native.Mathlib.Omega.{arith}
use Rattle.text.specs.Basic.{is_nil, present, or_else}
use Rattle.items.specs.declared.Condition.{Condition}
use Rattle.items.specs.Item.{newline, indent, outdent, group, Print, ◌⨟◌, say, stopped, lit, condition_test}
use Rattle.tree.specs.Source.{Source}
use Rattle.plan.specs.declared.Planner.{Planner}
use Rattle.plan.specs.Plans.{Plans}
use Rattle.plan.proofs.Laws.{by, ◌▸◌, numbers}
use Rattle.tree.specs.Tree.{Part}
use Rattle.tree.specs.declared.class.Class.{Class}
use Rattle.tree.specs.Class.{first, last, number_of}
use Rattle.tree.specs.Index.{end_at}
use Rattle.children.specs.declared.between.Bounds.{Bounds}
use Rattle.children.specs.declared.survey.Outline.{Outline}
use Rattle.children.specs.Reading.{Reading, enclosed, comp_specs}
use Rattle.children.specs.Spans.{gap_at}
use Rattle.children.specs.Between.{Bounded}
use Rattle.printer.specs.declared.lists.ListKind.{ListKind}
use Rattle.printer.specs.declared.lists.Style.TheVariants.{Elements, Arguments, Members, Specs, Binds}
use Rattle.printer.specs.Combine.{newline_if, test_of, ending}
use Rattle.printer.specs.Print.{children, list, arguments, comp_of, comprehension, local_of, statements_of, values_of, expression}
use Rattle.plan.specs.Words.{words, word_at, Word, word_or_none}
use Rattle.printer.specs.Lists.{on_line, behind_it, ending_of, open_list, close_list, close_arguments, opener_of, closer_of, child_of}
use Rattle.printer.specs.Under.{parts_of}
use Rattle.printer.specs.Walked.{Outlined}
use Rattle.printer.specs.Reads.{number_or, read_at, kids_in}
use Rattle.printer.proofs.Listing.{list-empty, list_full, args-full, comp-members, comp-full, local-many}
use Rattle.printer.proofs.Readings.{part-number}

-- ---- readings by their bounds

module _ {image index : List ℕ} (i : ℕ) where
  -- a list's reading
  pub list-reading : (l : ListKind) {a c d : Class} {z : Bounds} → a ≡ opener_of l → c ≡ closer_of l → d ≡ child_of l
      → Bounded image index (i + 1) (end_at index i) (number_of (first a (parts_of image index i))) (number_of (first c (parts_of image index i))) z
      → enclosed (child_of l) (opener_of l) (closer_of l) (parts_of image index i) ≡ read_at image index d z nothing
  list-reading l {a} {c} {d} p q r b = rw (← p, ← q, ← r) (b.read d (first a (parts_of image index i)) (first c (parts_of image index i)) nothing refl refl)

  -- the reading between the first tokens of two classes
  pub enclosed-reading : (w a c : Class) {z : Bounds} → Bounded image index (i + 1) (end_at index i) (number_of (first a (parts_of image index i))) (number_of (first c (parts_of image index i))) z
      → enclosed w a c (parts_of image index i) ≡ read_at image index w z nothing
  enclosed-reading w a c b = b.read w (first a (parts_of image index i)) (first c (parts_of image index i)) nothing refl refl

-- ---- texts of brackets

pub left_brace : Word 7 "{"
unfolding words
left_brace = record { known = omega arith; text = refl }

pub right_brace : Word 8 "}"
unfolding words
right_brace = record { known = omega arith; text = refl }

pub left_paren : Word 9 "("
unfolding words
left_paren = record { known = omega arith; text = refl }

pub right_paren : Word 10 ")"
unfolding words
right_paren = record { known = omega arith; text = refl }

-- ---- lists

module _ (pr : ℕ → Print) (a b z : String) {r q : Reading} (e : r ≡ q) where
  pub plans-empty : {src : Source} {index image : List ℕ} {o : Outline} {t : Bool} {w : ℕ} {h k : Planner} → Outlined image index q o → t ≡ ((eqb o.children 0 && not o.blank) && is_nil (gap_at image index o.last).waiting) → t ≡ true
      → Word w a → Plans src (lit (word_at w)) h k → Plans src (list pr a b z r) h k
  plans-empty x f g w p = by (ap (list pr a b z) e ∙ list-empty pr a b z x f g ∙ ap lit (sym w.text)) p

  pub plans-list : {src : Source} {index image : List ℕ} {o : Outline} {y : Bool} {k w v : ℕ} (t : Condition) {h₀ h₁ h₂ h₃ h₄ : Planner}
      → Outlined image index q o → y ≡ ((eqb o.children 0 && not o.blank) && is_nil (gap_at image index o.last).waiting) → y ≡ false → k ≡ h₀.runs → condition_test t ≡ test_of (o.many || o.blank) k → Word w b → Word v z
      → Plans src (open_list (word_at w) k (condition_test t)) h₀ h₁ → Plans src (say group) h₁ h₂
      → Plans src (children pr (on_line Elements (condition_test t)) (behind_it Elements (condition_test t)) (kids_in q)) h₂ h₃ → Plans src (close_list (word_at v) k (ending_of image index o)) h₃ h₄
      → Plans src (list pr a b z r) h₀ h₄
  plans-list t x f g n c w v p₁ p₂ p₃ p₄ =
      by (ap (list pr a b z) e ∙ list_full pr a b z x f g) (numbers _ n (rw (← c, ← w.text, ← v.text) (p₁ ▸ p₂ ▸ p₃ ▸ p₄)))

pub plans-args : {src : Source} (pr : ℕ → Print) {r q : Reading} → r ≡ q → {index image : List ℕ} {o : Outline} {k w v : ℕ} (t : Condition) {h₀ h₁ h₂ h₃ : Planner}
    → Outlined image index q o → k ≡ h₀.runs → condition_test t ≡ test_of false k → Word w "(" → Word v ")"
    → Plans src (open_list (word_at w) k (condition_test t)) h₀ h₁ → Plans src (children pr (on_line Arguments (condition_test t)) (behind_it Arguments (condition_test t)) (kids_in q)) h₁ h₂
    → Plans src (close_arguments (word_at v) k (ending_of image index o)) h₂ h₃ → Plans src (arguments pr r) h₀ h₃
plans-args pr e t x n c w v p₁ p₂ p₃ = by (ap (arguments pr) e ∙ args-full pr x) (numbers _ n (rw (← c, ← w.text, ← v.text) (p₁ ▸ p₂ ▸ p₃)))

-- ---- object comprehensions

-- its second reading
pub spec_reading : {image index : List ℕ} (i : ℕ) {r : Reading} {m : Outline} {z : Bounds} (x : Outlined image index r m)
    → Bounded image index (i + 1) (end_at index i) (number_of (or_else (last Class.MemberComp (parts_of image index i)) (first Class.LBrace (parts_of image index i)))) (number_of (first Class.RBrace (parts_of image index i))) z
    → comp_specs x.ending (parts_of image index i) ≡ read_at image index Class.CompSpec z (some (gap_at image index m.last).waiting)
spec_reading i x b = b.read Class.CompSpec _ _ (some x.ending.trivia) refl refl ∙ rw x.waits

pub plans-comp : {src : Source} (pr : ℕ → Print) (ps : List Part) {index image : List ℕ} {r q : Reading} {m o : Outline} {k w v : ℕ} (t : Condition) {h₀ h₁ h₂ h₃ h₄ h₅ h₆ : Planner} (x : Outlined image index r m)
    → comp_specs x.ending ps ≡ q → Outlined image index q o → k ≡ h₀.runs → condition_test t ≡ test_of (m.many || (o.many || (m.blank || o.blank))) k → Word w "{" → Word v "}"
    → Plans src (open_list (word_at w) k (condition_test t)) h₀ h₁ → Plans src (say group) h₁ h₂ → Plans src (children pr (on_line Members (condition_test t)) (behind_it Members (condition_test t)) (kids_in r)) h₂ h₃
    → Plans src (newline_if m.blank) h₃ h₄ → Plans src (children pr (on_line Specs (condition_test t)) (behind_it Specs (condition_test t)) (kids_in q)) h₄ h₅ → Plans src (close_list (word_at v) k (ending_of image index o)) h₅ h₆
    → Plans src (comp_of pr ps r) h₀ h₆
plans-comp pr ps {q = q} t x e y n c w v p₁ p₂ p₃ p₄ p₅ p₆ = by (comp-full pr ps x q e y) (numbers _ n (rw (← c, ← w.text, ← v.text) (p₁ ▸ p₂ ▸ p₃ ▸ p₄ ▸ p₅ ▸ p₆)))

-- it has no CompSpec
pub comp-lacks : (pr : ℕ → Print) (n : ℕ) (ps : List Part) (x : Option Part) {f : Option ℕ} {b : Bool} → f ≡ number_of x → b ≡ not (present f) → b ≡ true → comprehension pr n ps x ≡ stopped n
unfolding comprehension
comp-lacks pr n ps nothing e g h = refl
comp-lacks pr n ps (some x) e g h = absurd (false≢true (sym (rw e at g) ∙ h))

-- its first reading
pub member_reading : {image index : List ℕ} (i : ℕ) (pr : ℕ → Print) (x : Option Part) {f : Option ℕ} {b : Bool} {z : Bounds} → f ≡ number_of x → b ≡ not (present f) → b ≡ false
    → Bounded image index (i + 1) (end_at index i) (number_of (first Class.LBrace (parts_of image index i))) (number_of x) z
    → comprehension pr i (parts_of image index i) x ≡ comp_of pr (parts_of image index i) (read_at image index Class.Member z nothing)
member_reading i pr nothing e g h b = absurd (false≢true (sym h ∙ rw e at g))
member_reading i pr (some s) e g h b = comp-members pr _ i (some s) _ refl (λ s' q. rw (← q) (b.read Class.Member _ (some s) nothing refl refl))

-- ---- locals

pub plans-binds : {src : Source} (pr : ℕ → Print) {r q : Reading} → r ≡ q → {index image : List ℕ} {o : Outline} (t : Condition) {h₀ h₁ h₂ h₃ : Planner} → Outlined image index q o → (o.children ≡ 1 → ⊥)
    → Plans src (lit "local" ⨟ (say indent ⨟ say newline)) h₀ h₁ → Plans src (children pr (on_line Binds (condition_test t)) (behind_it Binds (condition_test t)) (kids_in q)) h₁ h₂
    → Plans src (ending (ending_of image index o) ⨟ say outdent) h₂ h₃ → Plans src (local_of pr r) h₀ h₃
plans-binds pr e t x h p₁ p₂ p₃ = by (ap (local_of pr) e ∙ local-many pr (condition_test t) x h) (p₁ ▸ p₂ ▸ p₃)

-- ---- expressions

pub plans-expr : {src : Source} {image index : List ℕ} (i : ℕ) (pr : ℕ → Print) (x : Option Part) {f : Option ℕ} {y z : Bounds} {h₀ h₁ h₂ h₃ : Planner} → f ≡ number_of x
    → Bounded image index (i + 1) (end_at index i) nothing f y → Bounded image index (i + 1) (end_at index i) f nothing z
    → Plans src (statements_of pr (read_at image index Class.Stmt y nothing)) h₀ h₁ → Plans src (number_or pr (word_or_none 14) f) h₁ h₂ → Plans src (values_of pr (read_at image index Class.Suffix z nothing)) h₂ h₃
    → Plans src (expression pr (parts_of image index i) x) h₀ h₃
unfolding expression word_or_none words
plans-expr i pr x e b d p₁ p₂ p₃ =
    by (ap (statements_of pr) (b.read Class.Stmt nothing x nothing refl (sym e))) p₁
    ▸ by (part-number pr _ x ∙ ap (number_or pr _) (sym e)) p₂
    ▸ by (ap (values_of pr) (d.read Class.Suffix x nothing nothing (sym e) refl)) p₃
