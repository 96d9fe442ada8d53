-- The laws of an element: which printer prints it, by its kind.
use Rattle.std.specs.Prelude.{◌≡◌, ℕ, ◌<◌, ◌≤◌, List}
use mathlib.Core.Path.{◌∙◌}
use native.Mathlib.Omega.{arith}
use borrow.Author.Tests.{ne_eqb, lt-leb, le-leb}
use Rattle.items.specs.Item.{text, say}
use Rattle.tree.specs.Index.{kind_at, text_at}
use Rattle.tree.proofs.Children.{table}
use Rattle.plan.specs.Ops.{operand_limit}
use Rattle.printer.specs.Layout.{layout}
use Rattle.printer.specs.Print.{element, row}
use Rattle.printer.specs.Under.{At, under, print_of, parts_of}
use Rattle.printer.proofs.Under.{node-is}

-- a kind with a row, as `element` asks for it
pub record Rowed (k : ℕ) : Type 0 where
  pub small : k < 64
  pub visibility : k ≡ 56 → ⊥
  pub expr : k ≡ 2 → ⊥
  pub array : k ≡ 10 → ⊥
  pub local : k ≡ 22 → ⊥
  pub comp : k ≡ 26 → ⊥
  pub members : k ≡ 27 → ⊥
  pub args : k ≡ 47 → ⊥

module _ {image index : List ℕ} {i k : ℕ} (t : At image index i) (e : k ≡ kind_at index i) where
  -- a token
  pub node-token : 64 ≤ k → print_of image i ≡ say (text (text_at image index i))
  unfolding element
  node-token h = node-is t ∙ rw (← e, le-leb 64 k h)

  -- a node with a printer of its own: the kind computes
  pub node-own : (n : ℕ) → k ≡ n → print_of image i ≡ element (under image i) n i (text_at image index i) (text_at image index i) (parts_of image index i)
  node-own n h = node-is t ∙ rw (← e, h)

  -- a node with a row
  pub node_row : Rowed k → print_of image i ≡ row (under image i) (parts_of image index i) (layout (kind_at index i))
  unfolding element
  node_row r = node-is t ∙ rw (← e, lt-leb 64 k r.small, ne_eqb k 56 r.visibility, ne_eqb k 2 r.expr, ne_eqb k 10 r.array, ne_eqb k 22 r.local, ne_eqb k 26 r.comp, ne_eqb k 27 r.members, ne_eqb k 47 r.args)

-- the number of an element has room in an operation
pub element-fits : {image index : List ℕ} {i : ℕ} → At image index i → i < operand_limit
element-fits h = omega (arith, h.within, (table h.indexed).few)
