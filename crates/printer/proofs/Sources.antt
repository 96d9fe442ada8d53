-- The laws of a source file: what stands before and behind its expression.
use Rattle.std.specs.Prelude.{◌≡◌, ℕ, ◌+◌, List, Ok, Err}
use Rattle.std.specs.declared.result.Result.{Result}
use Rattle.numbers.specs.declared.Element.{Element}
use mathlib.Core.Path.{sym, ◌∙◌}
use mathlib.Core.Option.{Option}
use Rattle.items.specs.Item.{newline, ◌⨟◌, say, stopped, lit}
use Rattle.comments.specs.Comments.{above_item, end_of_items}
use Rattle.tree.specs.Tree.{Part, tree_of}
use Rattle.tree.proofs.Passing.{accepted}
use Rattle.tree.specs.declared.class.Class.TheVariants as Class
use Rattle.tree.specs.Class.{first, number_of, all_of}
use Rattle.tree.specs.Index.{Indexed, end_at, parts_from}
use Rattle.children.specs.declared.around.Notes.{Notes}
use Rattle.plan.specs.Comments.{comments}
use Rattle.children.specs.Reading.{trivia_before, trivia_after}
use Rattle.children.specs.Stretch.{notes}
use Rattle.children.specs.Between.{Placed, Beside, around_by}
use Rattle.printer.specs.Print.{source, source_of, source_file}
use Rattle.printer.specs.Under.{At, under, parts_of}
use Rattle.printer.specs.Reads.{number_or}
use Rattle.printer.proofs.Under.{source_is}
use Rattle.printer.proofs.Readings.{part-number}

-- the root
pub root_at : {image index : List ℕ} → Indexed image index → At image index 0
root_at {image} x = record { indexed = x; within = (accepted image x.passed).not-empty }

-- the notes as a list
abbrev listed : List ℕ → List ℕ → Notes → List Part
listed index image n = all_of notes (parts_from image index n.from n.to)

module _
    {image index : List ℕ}
    (x : Indexed image index)
    {a b : ℕ}
    {e : Option ℕ}
    (p : a ≡ 0 + 1)
    (q : b ≡ end_at index 0)
    (f : e ≡ number_of (first Class.Expr (parts_of image index 0)))
    (before after : Result Notes Element)
    {u v s t : ℕ}
    (g : (y : Option Part) → number_of y ≡ e → Beside image index (trivia_before y (parts_from image index a b)) u v before)
    (h : (y : Option Part) → number_of y ≡ e → Beside image index (trivia_after y (parts_from image index a b)) s t after) where
  before-is : trivia_before (first Class.Expr (parts_of image index 0)) (parts_of image index 0) ≡ around_by image index before
  before-is = rw (p, q) at (g (first Class.Expr (parts_of image index 0)) (sym f)).read

  after_is : trivia_after (first Class.Expr (parts_of image index 0)) (parts_of image index 0) ≡ around_by image index after
  after_is = rw (p, q) at (h (first Class.Expr (parts_of image index 0)) (sym f)).read

  -- where the notes stand
  pub before-placed : {n : Notes} → before ≡ Ok n → Placed image index u v n
  before-placed = (g (first Class.Expr (parts_of image index 0)) (sym f)).placed _

  pub after-placed : {n : Notes} → after ≡ Ok n → Placed image index s t n
  after-placed = (h (first Class.Expr (parts_of image index 0)) (sym f)).placed _

  -- a foreign element before the expression
  pub source-before : {y : Element} → before ≡ Err y → source_file (tree_of image) ≡ stopped y.0
  unfolding source source_of
  source-before u = source_is x ∙ rw (before-is, u)

  -- one behind it
  pub source-behind : {n : Notes} {y : Element} → before ≡ Ok n → after ≡ Err y → source_file (tree_of image) ≡ stopped y.0
  unfolding source source_of
  source-behind u v = source_is x ∙ rw (before-is, after_is, u, v)

  -- none
  pub source-whole : {n m : Notes} → before ≡ Ok n → after ≡ Ok m
      → source_file (tree_of image) ≡ comments (listed index image n) above_item ⨟ (number_or (under image 0) (lit "/*missing Expr*/") e ⨟ (say newline ⨟ comments (listed index image m) end_of_items))
  unfolding source source_of
  source-whole u v = source_is x ∙ rw (before-is, after_is, u, v, part-number (under image 0) (lit "/*missing Expr*/") (first Class.Expr (parts_of image index 0)), f)
