-- What the numbers in the code's tables mean: wanted parts and pieces of rows.
use Rattle.std.specs.Prelude.{◌≡◌, ℕ, ◌-◌, ◌/◌, ◌%◌, ◌^◌, ◌<◌, ◌≤◌, Bool, true, false, cond, not, ◌&&◌, ◌||◌, List, [], ◌∷◌, ◌++◌, map, take, drop, ◌==◌, slice_index_or, Option, Some, None, IfSome}
use mathlib.Core.List.{flatten}
use Rattle.items.specs.declared.Signal.TheVariants.{NewLine, StartIndent, FinishIndent}
use Rattle.text.specs.Basic.{any, is_nil}
use Rattle.tree.specs.Tree.{Part}
use Rattle.tree.specs.declared.class.Class.TheVariants as Class
use Rattle.tree.specs.declared.class.Kinds.{Kinds}
use Rattle.tree.specs.Class.{kinds, of_kind, is}
use Rattle.plan.specs.Words.{word_at, word_count}
use Rattle.printer.specs.declared.rows.Entry.{Entry}
use Rattle.printer.specs.declared.rows.Extent.{Extent}
use Rattle.printer.specs.declared.rows.What.{What as Code}
use Rattle.printer.specs.declared.rows.What.TheVariants as C
use Rattle.printer.specs.Layout.{Want, What, txt, bare, part, opt, each, plus, Piece, Row, first_of, second_of, t, rows, layout}

-- the parts that rows want, by their numbers from 1; number 0 is the operators, of which the `+` of a field is one
unfoldable pub wants : List Want
wants =
    first_of Class.Operator ∷ first_of Class.Expr ∷ first_of Class.BinaryOperator ∷ second_of Class.Expr ∷ first_of Class.UnaryOperator ∷ first_of Class.Text
    ∷ first_of Class.Number ∷ first_of Class.Literal ∷ first_of Class.ObjBody ∷ first_of Class.CompSpec ∷ first_of Class.ImportKind ∷ first_of Class.Name
    ∷ first_of Class.TrueExpr ∷ first_of Class.Else ∷ first_of Class.FalseExpr ∷ first_of Class.ParamsDesc ∷ first_of Class.Question
    ∷ first_of Class.SliceDesc ∷ first_of Class.ArgsDesc ∷ first_of Class.Assertion ∷ first_of Class.Destruct ∷ first_of Class.ObjLocal
    ∷ first_of Class.FieldName ∷ first_of Class.Visibility ∷ first_of Class.DestructArrayPart ∷ first_of Class.DestructObjectField
    ∷ first_of Class.DestructRest ∷ first_of Class.Ident ∷ first_of Class.SliceDescEnd ∷ first_of Class.SliceDescStep ∷ first_of Class.Assign
    ∷ first_of Class.Param ∷ first_of Class.Bind ∷ first_of Class.Colon
    ∷ []

-- how many they are
abbrev pub want_count : ℕ
want_count = 34

-- the part with a number
abbrev pub want_at : ℕ → Want
want_at w = slice_index_or wants w (first_of Class.Expr)

-- the part with a number, if any, as a list
unfoldable pub wanted : Option ℕ → List Want
wanted None = []
wanted (Some w) = want_at w ∷ []

-- what a piece prints, from what the code says of it and the numbers of a wanted part and a text
unfoldable pub what_of : Code → ℕ → ℕ → What
what_of C.Text w s = txt (word_at s)
what_of (C.Signal x) w s = bare x
what_of C.Part w s = cond (s == 0) (opt (want_at w).class) (part (want_at w) (word_at s))
what_of (C.Each ended) w s = each (want_at w).class (word_at s) ended
what_of C.Plus w s = plus

-- what an entry's number says that it prints
abbrev pub what_in : ℕ → Code
what_in k =
    cond (k == 0) C.Text
    (cond (k == 1) (C.Signal NewLine)
    (cond (k == 2) (C.Signal StartIndent)
    (cond (k == 3) (C.Signal FinishIndent)
    (cond (k == 4) C.Part
    (cond (k == 5) (C.Each false)
    (cond (k == 6) (C.Each true)
    C.Plus))))))

-- the piece of an entry
abbrev pub piece_of : Entry → Piece
piece_of x = record { given = wanted x.given ++ wanted x.other; unless = wanted x.unless; what = what_of (what_in x.what) x.want x.word }

-- a piece goes by the parts that are there
abbrev pub tested : Piece → Bool
tested p = not (is_nil p.given && is_nil p.unless)

-- the pieces of all rows in their order
unfoldable pub all_pieces : List Piece
all_pieces = flatten (map Row.pieces rows)

-- how many they are
abbrev pub piece_count : ℕ
piece_count = 145

-- the piece with a number
abbrev pub piece_at : ℕ → Piece
piece_at q = slice_index_or all_pieces q (t "")

-- by what it prints: that a part or nothing is the first of its kinds, and that a `+` has no text
abbrev pub settled_as : Code → ℕ → ℕ → Bool
settled_as C.Text w s = true
settled_as (C.Signal x) w s = true
settled_as C.Part w s = not (s == 0) || (want_at w).place == 0
settled_as (C.Each ended) w s = true
settled_as C.Plus w s = s == 0

-- an entry that prints a part or nothing names the first of its kinds, and one that prints a `+` has no text
abbrev pub settled : Entry → Bool
settled x = settled_as (what_in x.what) x.want x.word

-- the eight bits of a table's number from a place on
abbrev pub bits_at : ℕ → ℕ → ℕ
bits_at n s = n / 2 ^ s % 256

-- the number that stands there; 0 is none
abbrev pub option_at : ℕ → ℕ → Option ℕ
option_at n s = cond (bits_at n s == 0) None (Some (bits_at n s))

-- the entry that stands in a table's number
abbrev pub entry_of : ℕ → Entry
entry_of n = record { tested = not (n % 16777216 == 0); given = option_at n 0; other = option_at n 8; unless = option_at n 16; what = bits_at n 24; want = bits_at n 32; word = bits_at n 40 }

-- the row that stands in it
abbrev pub extent_of : ℕ → Extent
extent_of n = record { start = bits_at n 0; end = bits_at n 8; marks = not (bits_at n 16 == 0) }

-- the kinds that stand in it
abbrev pub kinds_in : ℕ → Kinds
kinds_in n = record { lo = bits_at n 0; hi = bits_at n 8; but = option_at n 16 }

-- The entry of piece q: what it means, and that its numbers are in the tables.
pub record Coded (q : ℕ) (x : Entry) : Type 0 where
  pub piece : piece_of x ≡ piece_at q
  pub tests : x.tested ≡ tested (piece_of x)
  pub given : IfSome x.given (λ w. w < want_count)
  pub other : IfSome x.other (λ w. w < want_count)
  pub unless : IfSome x.unless (λ w. w < want_count)
  pub want : x.want < want_count
  pub word : x.word < word_count
  pub settles : settled x ≡ true

-- The pieces of a kind's row are those of the definition, and parts are marked where one of them goes by these.
pub record RowOf (k : ℕ) (r : Extent) : Type 0 where
  pub pieces_of : take (r.end - r.start) (drop r.start all_pieces) ≡ layout k
  pub within : r.end ≤ piece_count
  pub marking : (q : ℕ) → r.start ≤ q → q < r.end → tested (piece_at q) ≡ true → r.marks ≡ true

-- A number holds the kinds of wanted part w, and which of them it is.
pub record WantOf (w n : ℕ) : Type 0 where
  pub class-kinds : kinds_in n ≡ kinds (want_at w).class
  pub which : bits_at n 24 ≡ (want_at w).place

-- ---- marks: a bit for each wanted part, by its class

-- bit w of a number is set
abbrev pub marked : ℕ → ℕ → Bool
marked m w = m / 2 ^ w % 2 == 1

-- Bit w of m is set where the kind k is of the class of wanted part w.
pub record MarksOf (k m : ℕ) : Type 0 where
  pub of-class : (w : ℕ) → w < want_count → marked m w ≡ of_kind (want_at w).class k

-- Where bit w of m is not set, none of the parts is; and where it is set, one of them is, if the marks are sure.
pub record Marks (ps : List Part) (sure : Bool) (m : ℕ) : Type 0 where
  pub absent : (w : ℕ) → w < want_count → marked m w ≡ false → any (is (want_at w).class) ps ≡ false
  pub there : sure ≡ true → (w : ℕ) → w < want_count → marked m w ≡ true → any (is (want_at w).class) ps ≡ true
