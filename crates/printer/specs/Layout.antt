-- lib.rs, the nodes with a fixed layout: a row of pieces for each kind.
use Rattle.std.specs.Prelude.{ℕ, Bool, true, false, cond, not, ◌&&◌, ◌||◌, List, [], ◌∷◌, ◌==◌}
use Prim.Native.String.{String}
use Rattle.text.specs.Basic.{is_nil, present, any}
use Rattle.items.specs.declared.Signal.{Signal}
use Rattle.items.specs.declared.Signal.TheVariants.{NewLine, StartIndent, FinishIndent}
use Rattle.tree.specs.Tree.{Part}
use Rattle.tree.specs.declared.class.Class.{Class}
use Rattle.tree.specs.Class.{nth}

-- The n-th part of a class.
pub record Want : Type 0 where
  pub class : Class
  pub place : ℕ

-- What a piece prints.
pub data What : Type 0 where
  txt : String → What  -- a text of the formatter's own: str(..)
  bare : Signal → What  -- a newline, an indent or an outdent
  part : Want → String → What  -- what the part prints, or the text that says what is missing
  opt : Class → What  -- what the first part of the class prints, if there is one
  each : Class → String → Bool → What  -- all parts of the class: each behind a text, and in front of a comma and a newline if so asked
  plus : What  -- the + of a field, if there is one

-- A piece of a row, and when it is printed.
pub record Piece : Type 0 where
  pub given : List Want  -- only if there is one of these, where any is named
  pub unless : List Want  -- and if there is none of these
  pub what : What

-- a piece that is always printed
abbrev pub always : What → Piece
always w = record { given = []; unless = []; what = w }

-- the first part of a class
abbrev pub first_of : Class → Want
first_of c = record { class = c; place = 0 }

-- the second part of a class: `nth(1usize)`
abbrev pub second_of : Class → Want
second_of c = record { class = c; place = 1 }

-- a piece that is printed where one of these is there
abbrev pub given : List Want → Piece → Piece
given ws p = record { given = ws; unless = p.unless; what = p.what }

-- a piece that is printed where none of these is there
abbrev pub unless : List Want → Piece → Piece
unless ws p = record { given = p.given; unless = ws; what = p.what }

-- str(..)
abbrev pub t : String → Piece
t s = always (txt s)

-- a part, or the text that says that it is missing
abbrev pub one : Class → String → Piece
one c s = always (part (first_of c) s)

-- the first part of a class, if there is one
abbrev pub maybe : Class → Piece
maybe c = always (opt c)

-- nl
abbrev pub nl : Piece
nl = always (bare NewLine)

-- >i
abbrev pub deeper : Piece
deeper = always (bare StartIndent)

-- <i
abbrev pub back : Piece
back = always (bare FinishIndent)

-- the parts that many rows name: 'An absent part prints `/*missing Expr*/` and so on'
abbrev pub expr : Piece
expr = one Class.Expr "/*missing Expr*/"

abbrev pub second_expr : Piece
second_expr = always (part (second_of Class.Expr) "/*missing Expr*/")

abbrev pub name : Piece
name = one Class.Name "/*missing Name*/"

abbrev pub params : Piece
params = one Class.ParamsDesc "/*missing ParamsDesc*/"

abbrev pub destruct : Piece
destruct = one Class.Destruct "/*missing Destruct*/"

abbrev pub text : Piece
text = one Class.Text "/*missing Text*/"

abbrev pub visibility : Piece
visibility = one Class.Visibility "/*missing Visibility*/"

abbrev pub assertion : Piece
assertion = one Class.Assertion "/*missing Assertion*/"

abbrev pub field_name : Piece
field_name = one Class.FieldName "/*missing FieldName*/"

-- The row of a kind.
pub record Row : Type 0 where
  pub kind : ℕ
  pub pieces : List Piece

infix 30 ◌⇒◌
-- a kind and its pieces
abbrev pub ◌⇒◌ : ℕ → List Piece → Row
◌⇒◌ k ps = record { kind = k; pieces = ps }

-- 'The Rust decides layout': the cases of `Printable::print` that are no lists
unfoldable pub rows : List Row
rows =
    (3 ⇒ expr ∷ t " " ∷ one Class.BinaryOperator "/*missing BinaryOperator*/" ∷ t " " ∷ second_expr ∷ [])
    ∷ (4 ⇒ one Class.UnaryOperator "/*missing UnaryOperator*/" ∷ expr ∷ [])
    ∷ (5 ⇒ expr ∷ t " " ∷ second_expr ∷ [])
    ∷ (6 ⇒ t "(" ∷ expr ∷ t ")" ∷ [])
    ∷ (7 ⇒ text ∷ [])
    ∷ (8 ⇒ one Class.Number "/*missing Number*/" ∷ [])
    ∷ (9 ⇒ one Class.Literal "/*missing Literal*/" ∷ [])
    ∷ (11 ⇒ one Class.ObjBody "/*missing ObjBody*/" ∷ [])
    ∷ (12 ⇒ t "[" ∷ expr ∷ always (each Class.CompSpec " " false) ∷ t "]" ∷ [])
    ∷ (13 ⇒ one Class.ImportKind "/*missing ImportKind*/" ∷ t " " ∷ text ∷ [])
    ∷ (14 ⇒ name ∷ [])
    ∷ (15 ⇒ t "if " ∷ expr ∷ t " then " ∷ one Class.TrueExpr "/*missing core::option::Option<Expr>*/"
    ∷ given (first_of Class.Else ∷ first_of Class.FalseExpr ∷ []) (t " else ")
    ∷ given (first_of Class.Else ∷ first_of Class.FalseExpr ∷ []) (one Class.FalseExpr "/*missing core::option::Option<Expr>*/") ∷ [])
    ∷ (16 ⇒ t "function" ∷ params ∷ nl ∷ expr ∷ [])
    ∷ (17 ⇒ t "error " ∷ expr ∷ [])
    ∷ (18 ⇒ given (first_of Class.Question ∷ []) (t "?") ∷ t "." ∷ name ∷ [])
    ∷ (19 ⇒ given (first_of Class.Question ∷ []) (t ".?") ∷ t "[" ∷ expr ∷ t "]" ∷ [])
    ∷ (20 ⇒ one Class.SliceDesc "/*missing SliceDesc*/" ∷ [])
    ∷ (21 ⇒ one Class.ArgsDesc "/*missing ArgsDesc*/" ∷ [])
    ∷ (23 ⇒ assertion ∷ t ";" ∷ nl ∷ [])
    ∷ (24 ⇒ destruct ∷ t " = " ∷ expr ∷ [])
    ∷ (25 ⇒ name ∷ params ∷ t " = " ∷ expr ∷ [])
    ∷ (28 ⇒ one Class.ObjLocal "/*missing ObjLocal*/" ∷ [])
    ∷ (29 ⇒ assertion ∷ [])
    ∷ (30 ⇒ field_name ∷ always plus ∷ visibility ∷ t " " ∷ expr ∷ [])
    ∷ (31 ⇒ field_name ∷ params ∷ visibility ∷ t " " ∷ expr ∷ [])
    ∷ (32 ⇒ t "for " ∷ destruct ∷ t " in " ∷ expr ∷ [])
    ∷ (33 ⇒ t "for [" ∷ name ∷ t "]" ∷ visibility ∷ t " " ∷ destruct ∷ t " in " ∷ expr ∷ [])
    ∷ (34 ⇒ t "if " ∷ expr ∷ [])
    ∷ (35 ⇒ name ∷ [])
    ∷ (36 ⇒ t "?" ∷ [])
    ∷ (37 ⇒ t "[" ∷ deeper ∷ nl ∷ always (each Class.DestructArrayPart "" true) ∷ back ∷ t "]" ∷ [])
    ∷ (38 ⇒ t "{" ∷ deeper ∷ nl ∷ always (each Class.DestructObjectField "" false)
    ∷ maybe Class.DestructRest ∷ given (first_of Class.DestructRest ∷ []) nl ∷ back ∷ t "}" ∷ [])
    ∷ (39 ⇒ destruct ∷ [])
    ∷ (40 ⇒ t "..." ∷ maybe Class.Name ∷ [])
    ∷ (41 ⇒ maybe Class.Name ∷ unless (first_of Class.Name ∷ []) (one Class.Text "/*missing FieldName*/") ∷ [])
    ∷ (42 ⇒ t "[" ∷ expr ∷ t "]" ∷ [])
    ∷ (43 ⇒ maybe Class.Ident ∷ [])
    ∷ (44 ⇒ t "[" ∷ maybe Class.Expr ∷ t ":" ∷ maybe Class.SliceDescEnd ∷ given (first_of Class.SliceDescStep ∷ []) (t ":") ∷ maybe Class.SliceDescStep ∷ t "]" ∷ [])
    ∷ (45 ⇒ expr ∷ [])
    ∷ (46 ⇒ expr ∷ [])
    ∷ (48 ⇒ given (first_of Class.Name ∷ first_of Class.Assign ∷ []) name ∷ given (first_of Class.Name ∷ first_of Class.Assign ∷ []) (t " = ") ∷ expr ∷ [])
    ∷ (49 ⇒ t "(" ∷ deeper ∷ nl ∷ always (each Class.Param "" false) ∷ back ∷ t ")" ∷ [])
    ∷ (50 ⇒ destruct ∷ given (first_of Class.Assign ∷ first_of Class.Expr ∷ []) (t " = ") ∷ given (first_of Class.Assign ∷ first_of Class.Expr ∷ []) expr ∷ t "," ∷ nl ∷ [])
    ∷ (51 ⇒ t "local " ∷ one Class.Bind "/*missing Bind*/" ∷ [])
    ∷ (52 ⇒ t "assert " ∷ expr ∷ given (first_of Class.Colon ∷ second_of Class.Expr ∷ []) (t ": ") ∷ given (first_of Class.Colon ∷ second_of Class.Expr ∷ []) second_expr ∷ [])
    ∷ (53 ⇒ expr ∷ [])
    ∷ (54 ⇒ expr ∷ [])
    ∷ (55 ⇒ name ∷ given (first_of Class.Destruct ∷ []) (t ": ") ∷ maybe Class.Destruct ∷ given (first_of Class.Expr ∷ []) (t " = ") ∷ maybe Class.Expr ∷ t "," ∷ nl ∷ [])
    ∷ []

-- the pieces of the first row of a kind
unfoldable pub pick : ℕ → List Row → List Piece
pick k [] = []
pick k (r ∷ rs) = cond (k == r.kind) r.pieces (pick k rs)

-- the row of a kind
abbrev pub layout : ℕ → List Piece
layout k = pick k rows

-- the part is there
abbrev pub found : List Part → Want → Bool
found xs w = present (nth w.class w.place xs)

-- a piece is printed for a node with these parts
abbrev pub asked : List Part → Piece → Bool
asked xs p = (is_nil p.given || any (found xs) p.given) && not (any (found xs) p.unless)
