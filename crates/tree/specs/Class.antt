-- Classes of kinds, as accessors and readings look for them, and the accessors of nodes.rs.
use Rattle.std.specs.Prelude.{Some, None, false, Bool, cond, not, ◌&&◌, List, [], ◌∷◌, ℕ, zero, suc, leb, eqb}
use Rattle.std.specs.declared.option.Option as std
use Rattle.std.proofs.Math.Option.{Option, none, some}
use Rattle.text.specs.Basic.{ascii, or_else, same_bytes}
use Rattle.tree.specs.Tree.{Part}
pub use Rattle.tree.specs.declared.class.Class.{Class}
pub use Rattle.tree.specs.declared.class.Class.TheVariants.{Expr, ExprBase, Suffix, Stmt, Bind, ObjBody, Member, MemberComp, CompSpec, Destruct, DestructArrayPart, FieldName, Name, SliceDesc, SliceDescEnd, SliceDescStep, ArgsDesc, Arg, ParamsDesc, Param, ObjLocal, Assertion, TrueExpr, FalseExpr, DestructObjectField, DestructRest, Visibility, Trivia, CustomError, SingleLine, Separator, Text, Number, Literal, ImportKind, Ident, Operator, BinaryOperator, UnaryOperator, Semi, LParen, RParen, LBrack, RBrack, LBrace, RBrace, Colon, Question, Assign, Local, Else}
pub use Rattle.tree.specs.declared.class.Kinds.{Kinds}

-- all kinds from a to b
abbrev pub from : ℕ → ℕ → Kinds
from a b = record { lo = a; hi = b; but = None }

-- one kind
abbrev pub only : ℕ → Kinds
only a = from a a

-- all kinds from a to b but one
abbrev pub without : ℕ → ℕ → ℕ → Kinds
without a b n = record { lo = a; hi = b; but = Some n }

-- 'Kinds of nodes' and 'Kinds of tokens'
unfoldable pub kinds : Class → Kinds
kinds Expr = only 2
kinds ExprBase = from 3 17
kinds Suffix = from 18 21
kinds Stmt = from 22 23
kinds Bind = from 24 25
kinds ObjBody = from 26 27
kinds Member = from 28 31
kinds MemberComp = without 28 31 29
kinds CompSpec = from 32 34
kinds Destruct = from 35 38
kinds DestructArrayPart = from 39 40
kinds DestructRest = only 40
kinds FieldName = from 41 42
kinds Name = only 43
kinds SliceDesc = only 44
kinds SliceDescEnd = only 45
kinds SliceDescStep = only 46
kinds ArgsDesc = only 47
kinds Arg = only 48
kinds ParamsDesc = only 49
kinds Param = only 50
kinds ObjLocal = only 51
kinds Assertion = only 52
kinds TrueExpr = only 53
kinds FalseExpr = only 54
kinds DestructObjectField = only 55
kinds Visibility = only 56
kinds Trivia = from 64 69
kinds SingleLine = from 68 69
kinds CustomError = from 70 72
kinds Text = from 73 86
kinds Number = only 87
kinds Literal = only 88
kinds ImportKind = only 89
kinds Ident = only 90
kinds Operator = from 91 93
kinds BinaryOperator = without 91 93 92
kinds UnaryOperator = from 92 93
kinds Separator = from 94 95
kinds Semi = only 95
kinds LParen = only 96
kinds RParen = only 97
kinds LBrack = only 98
kinds RBrack = only 99
kinds LBrace = only 100
kinds RBrace = only 101
kinds Colon = only 102
kinds Question = only 103
kinds Assign = only 104
kinds Local = only 105
kinds Else = only 106

-- a kind is the one that is left out
abbrev pub left_out : std.Option ℕ → ℕ → Bool
left_out None k = false
left_out (Some n) k = eqb k n

-- a kind is one of these
unfoldable pub one_of : Kinds → ℕ → Bool
one_of w k = (leb w.lo k && leb k w.hi) && not (left_out w.but k)

-- a kind is of the class: can_cast
abbrev pub of_kind : Class → ℕ → Bool
of_kind c k = one_of (kinds c) k

-- a part is of the class: cast
abbrev pub is : Class → Part → Bool
is c x = of_kind c x.kind

-- 'The `+` of a field is an operator token (91-93) with text `+`'
unfoldable pub is_plus : Part → Bool
is_plus x = is Operator x && same_bytes x.text (ascii "+")

-- the n-th part of these kinds, from 0: `nth(1usize)` is the second
unfoldable pub nth_of : Kinds → ℕ → List Part → Option Part
nth_of w n [] = none
nth_of w zero (x ∷ xs) = cond (one_of w x.kind) (some x) (nth_of w zero xs)
nth_of w (suc n) (x ∷ xs) = cond (one_of w x.kind) (nth_of w n xs) (nth_of w (suc n) xs)

-- the n-th part of a class
abbrev pub nth : Class → ℕ → List Part → Option Part
nth c = nth_of (kinds c)

-- 'first child or token of its kind'
abbrev pub first : Class → List Part → Option Part
first c = nth c 0

-- the last part of these kinds
unfoldable pub last_of : Kinds → List Part → Option Part
last_of w [] = none
last_of w (x ∷ xs) = or_else (last_of w xs) (cond (one_of w x.kind) (some x) none)

-- the last part of a class
abbrev pub last : Class → List Part → Option Part
last c = last_of (kinds c)

-- the first `+` of a field
unfoldable pub plus_of : List Part → Option Part
plus_of [] = none
plus_of (x ∷ xs) = cond (is_plus x) (some x) (plus_of xs)

-- the number of a part
abbrev pub number_of : Option Part → Option ℕ
number_of none = none
number_of (some x) = some x.number

-- the parts of these kinds
unfoldable pub all_of : Kinds → List Part → List Part
all_of w [] = []
all_of w (x ∷ xs) = cond (one_of w x.kind) (x ∷ all_of w xs) (all_of w xs)
