-- The texts of the formatter's own, by their numbers.
use Rattle.std.specs.Prelude.{◌≡◌, ℕ, ◌<◌, cond, List, [], ◌∷◌, ◌==◌}
use Prim.Native.String.{String}
use Rattle.text.specs.Words.{word_in}
use Rattle.items.specs.Item.{Print, none, lit}

-- the texts of the formatter's own, by their numbers
unfoldable pub words : List String
words =
    "" ∷ "," ∷ " " ∷ "[ ]" ∷ "[" ∷ "]" ∷ "{ }" ∷ "{" ∷ "}" ∷ "(" ∷ ")" ∷ "local" ∷ "local " ∷ ";" ∷ "/*missing ExprBase*/" ∷ "/*missing Expr*/"
    ∷ "/*missing BinaryOperator*/" ∷ "/*missing UnaryOperator*/" ∷ "/*missing Text*/" ∷ "/*missing Number*/" ∷ "/*missing Literal*/"
    ∷ "/*missing ObjBody*/" ∷ "/*missing ImportKind*/" ∷ "/*missing Name*/" ∷ "if " ∷ " then " ∷ "/*missing core::option::Option<Expr>*/"
    ∷ " else " ∷ "function" ∷ "/*missing ParamsDesc*/" ∷ "error " ∷ "?" ∷ "." ∷ ".?" ∷ "/*missing SliceDesc*/" ∷ "/*missing ArgsDesc*/"
    ∷ "/*missing Assertion*/" ∷ "/*missing Destruct*/" ∷ " = " ∷ "/*missing ObjLocal*/" ∷ "/*missing FieldName*/" ∷ "/*missing Visibility*/"
    ∷ "for " ∷ " in " ∷ "for [" ∷ "..." ∷ ":" ∷ "/*missing Bind*/" ∷ "assert " ∷ ": "
    ∷ []

-- how many they are
abbrev pub word_count : ℕ
word_count = 50

-- the text with a number
abbrev pub word_at : ℕ → String
word_at w = word_in words w

-- w is the number of a text.
pub record Word (w : ℕ) (s : String) : Type 0 where
  pub known : w < word_count
  pub text : word_at w ≡ s

-- the text with a number; number 0 is no text at all
unfoldable pub word_or_none : ℕ → Print
word_or_none w = cond (w == 0) none (lit (word_at w))
