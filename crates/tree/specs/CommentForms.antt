-- The three forms of comments of the Jsonnet specification (jsonnet.org/ref/spec.html, Lexing), read as a lexer reads them: `#` and `//` begin a comment
-- that goes to the end of its line, `/*` one that goes to the first `*/` behind it. Document 01: 'The Jsonnet specification decides the three comment forms'.
use Rattle.std.specs.Prelude.{Bool, true, false, cond, not, ◌&&◌, ◌||◌, List, [], ◌∷◌, ℕ, eqb, length, drop}
use Rattle.std.proofs.Math.Option.{Option, none, some}
use Rattle.text.specs.Basic.{ascii, is_nil, starts_with}

-- what is left of a text behind the first t in it; none where t does not stand in it
unfoldable pub behind_first : List ℕ → List ℕ → Option (List ℕ)
behind_first t [] = none
behind_first t (b ∷ s) = cond (starts_with t (b ∷ s)) (some (drop (length t) (b ∷ s))) (behind_first t s)

-- a comment is over with the text: nothing is left behind its end, or it has no end and needs none
abbrev pub is_over : Bool → Option (List ℕ) → Bool
is_over endless none = endless
is_over endless (some rest) = is_nil rest

-- an opening, and all up to the first end behind it, which some need not have
unfoldable pub formed : List ℕ → List ℕ → Bool → List ℕ → Bool
formed opening end endless s = starts_with opening s && is_over endless (behind_first end (drop (length opening) s))

-- a line feed ends a line and belongs to it, as a carriage return before it does; the last line of a file has none
abbrev pub line_feed : List ℕ
line_feed = 10 ∷ []

-- a token of this kind has the form of its comment; no other kind is a comment of the specification
unfoldable pub is_form : ℕ → List ℕ → Bool
is_form k s =
    (eqb k 68 && formed (ascii "#") line_feed true s)
    || ((eqb k 69 && formed (ascii "//") line_feed true s)
    || (eqb k 65 && formed (ascii "/*") (ascii "*/") false s))

-- WHAT A TEXT MAY HOLD, apart from how a comment is read

-- t stands somewhere in a text
unfoldable pub stands : List ℕ → List ℕ → Bool
stands t [] = false
stands t (b ∷ s) = starts_with t (b ∷ s) || stands t s

-- a text without its last byte
unfoldable pub but_last : List ℕ → List ℕ
but_last [] = []
but_last (b ∷ s) = cond (is_nil s) [] (b ∷ but_last s)

-- behind an opening of n bytes, t stands nowhere but at the very end, if there
abbrev pub only_last : ℕ → List ℕ → List ℕ → Bool
only_last n t s = not (stands t (but_last (drop n s)))

-- a comment's end stands nowhere in it but at its end: no line feed before the last byte of a `#` or `//` comment, no `*/` before the last two of a multi-line one
unfoldable pub ends_once : ℕ → List ℕ → Bool
ends_once k s =
    (eqb k 68 && only_last 1 line_feed s)
    || ((eqb k 69 && only_last 2 line_feed s)
    || (eqb k 65 && only_last 2 (ascii "*/") s))
