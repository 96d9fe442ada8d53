-- Document 01, 'Twelve kept examples', A to L in one list, and `[1]`, also from the bytes of its image to those of its listing. Document 02, Ask 1: trees in both modes.
use Rattle.std.specs.Prelude.{Bool, false, ◌&&◌, ℕ, ◌/◌, ◌%◌, length}
use mathlib.Core.List.{List, [], ◌∷◌, ◌++◌, map, flatten}
use Prim.Native.String.{String}
use Rattle.text.specs.Basic.{ascii, same_bytes}
use Rattle.items.specs.Item.{Test, always, lines, Item, text, newline, space_or_newline, mark, group, group_end, block, block_end, run, run_end, again, if_test, else_item, end_if}
use Rattle.numbers.specs.declared.mode.Mode.TheVariants.{Plain, Keeping}
use Rattle.items.specs.Records.{words, bytes}
use Rattle.comments.specs.Comments
use Rattle.comments.specs.Comments.{Location, above_item, item_inline}
use Rattle.listing.specs.Examples.{one_items}
use Rattle.formatter.specs.Answer.{Verdict, turned_away, printed, verdict}

-- An element of a tree image: its kind, its level and its text.
pub record Entry : Type 0 where
  pub kind : ℕ
  pub level : ℕ
  pub text : List ℕ

-- two bytes, little-endian
abbrev pub u16 : ℕ → List ℕ
u16 n = n % 256 ∷ n / 256 % 256 ∷ []

-- four bytes, little-endian
abbrev pub u32 : ℕ → List ℕ
u32 n = u16 n ++ u16 (n / 65536)

-- 'Tree image'
abbrev pub image_of : List Entry → List ℕ
image_of es =
    let ts = flatten (map (λ e. e.text) es) in
    u32 (length es) ++ (flatten (map (λ e. u16 e.kind ++ (u16 e.level ++ u32 (length e.text))) es) ++ (u32 (length ts) ++ ts))

-- What an example is about: a comment at a place, or a tree.
pub data Source : Type 0 where
  comment : ℕ → String → Location → Source
  tree : List Entry → Source

-- A source, and the items that the paper gives for it.
pub record Example : Type 0 where
  pub name : String
  pub source : Source
  pub expected : List Item

-- what the definitions give for an example
abbrev pub result : Source → Verdict
result (comment k s loc) = printed (Comments.comment k (ascii s) loc)
result (tree es) = verdict Plain (image_of es)

-- two lists of items have the same records and texts
abbrev pub same_items : List Item → List Item → Bool
same_items xs ys = same_bytes (words 0 xs) (words 0 ys) && same_bytes (bytes xs) (bytes ys)

-- a verdict gives these items
abbrev pub gives : Verdict → List Item → Bool
gives (turned_away n e) ys = false
gives (printed xs) ys = same_items xs ys

-- the definitions give what the paper says
abbrev pub passes : Example → Bool
passes x = gives (result x.source) x.expected

-- a token, and a node
abbrev token : ℕ → ℕ → String → Entry
token k l s = record { kind = k; level = l; text = ascii s }

abbrev node : ℕ → ℕ → Entry
node k l = record { kind = k; level = l; text = [] }

-- a number as a child of an array
abbrev number : String → List Entry
number s = node 2 3 ∷ node 8 4 ∷ token 87 5 s ∷ []

-- a source file that is an array
abbrev array : List Entry → Source
array es = tree (node 1 0 ∷ node 2 1 ∷ node 10 2 ∷ token 98 3 "[" ∷ (es ++ (token 99 3 "]" ∷ [])))

abbrev t : String → Item
t s = text (ascii s)

-- the items of such a file, around those of its elements
abbrev around : Test → List Item → List Item
around w xs =
    t "[" ∷ mark 0 ∷ if_test w ∷ block ∷ newline ∷ run 0 ∷ group ∷ group
    ∷ xs ++ (group_end ∷ group_end ∷ run_end 0 ∷ block_end ∷ else_item ∷ t " " ∷ again 0 ∷ end_if ∷ t "]" ∷ mark 1 ∷ newline ∷ [])

abbrev separator : Test → List Item
separator w = if_test w ∷ newline ∷ else_item ∷ space_or_newline ∷ end_if ∷ []

-- the last element of an array
abbrev final : String → Test → List Item
final s w = t s ∷ if_test w ∷ t "," ∷ end_if ∷ separator w

abbrev ex : String → Source → List Item → Example
ex n s xs = record { name = n; source = s; expected = xs }

-- `[1]`, and A to L, K twice
unfoldable pub examples : List Example
examples =
    ex "[1]" (array (number "1")) one_items
    ∷ ex "A" (comment 65 "/**/" above_item) []
    ∷ ex "B" (comment 65 "/***/" above_item) []
    ∷ ex "C" (comment 65 "/* pump */" above_item) (t "/* " ∷ t "pump" ∷ t " */" ∷ newline ∷ [])
    ∷ ex "D" (comment 65 "/* pump */" item_inline) (t " " ∷ t "/* " ∷ t "pump" ∷ t " */" ∷ [])
    ∷ ex "E" (comment 65 "/****/" above_item) (t "/*" ∷ t "*" ∷ newline ∷ t " *" ∷ t " " ∷ t "*" ∷ newline ∷ t " " ∷ t "*/" ∷ newline ∷ [])
    ∷ ex "F" (comment 65 "/*a\n\n  b*/" above_item) (t "/*" ∷ newline ∷ t "a" ∷ newline ∷ newline ∷ t "  b" ∷ newline ∷ t "*/" ∷ newline ∷ [])
    ∷ ex "G" (comment 65 "/*\n  a\n    b\n*/" above_item) (t "/*" ∷ newline ∷ t "a" ∷ newline ∷ t "  b" ∷ newline ∷ t "*/" ∷ newline ∷ [])
    ∷ ex "H" (comment 68 "#  k " item_inline) (t " " ∷ t "# " ∷ t "k" ∷ [])
    ∷ ex "I" (array []) (t "[ ]" ∷ newline ∷ [])
    ∷ ex "J" (array (token 64 3 " " ∷ [])) (around (lines 0) [])
    ∷ ex "K, two newlines" (array (number "1" ++ (token 94 3 "," ∷ token 64 3 "\n\n" ∷ number "2"))) (around always (t "1" ∷ t "," ∷ separator always ++ (newline ∷ final "2" always)))
    ∷ ex "K, one newline" (array (number "1" ++ (token 94 3 "," ∷ token 64 3 "\n" ∷ number "2"))) (around always (t "1" ∷ t "," ∷ separator always ++ final "2" always))
    ∷ ex "L" (array (number "1" ++ (token 64 3 " " ∷ token 68 3 "# k\n" ∷ token 94 3 "," ∷ token 64 3 " " ∷ number "2")))
    (around always (t "1" ∷ t "," ∷ t " " ∷ t "# " ∷ t "k" ∷ separator always ++ final "2" always))
    ∷ []

-- A tree, and the items that each mode prints of it.
pub record InBoth : Type 0 where
  pub name : String
  pub elements : List Entry
  pub plain : List Item
  pub kept : List Item

-- the definitions give them
abbrev pub passes_both : InBoth → Bool
passes_both x = gives (verdict Plain (image_of x.elements)) x.plain && gives (verdict Keeping (image_of x.elements)) x.kept

-- a source file that is an expression of these parts
abbrev expression : List Entry → List Entry
expression es = node 1 0 ∷ node 2 1 ∷ es

-- `local NAME = NUMBER;`, and what it prints
abbrev local : String → String → List Entry
local name n =
    node 22 2 ∷ token 105 3 "local" ∷ token 64 3 " " ∷ node 24 3 ∷ node 35 4 ∷ node 43 5 ∷ token 90 6 name
    ∷ token 104 4 "=" ∷ node 2 4 ∷ node 8 5 ∷ token 87 6 n ∷ token 95 3 ";" ∷ []

abbrev local_items : String → String → List Item
local_items name n = t "local " ∷ t name ∷ t " = " ∷ t n ∷ t ";" ∷ newline ∷ []

-- `NAME`
abbrev name : String → List Entry
name s = node 14 2 ∷ node 43 3 ∷ token 90 4 s ∷ []

abbrev both : String → List Entry → List Item → List Item → InBoth
both n es xs ys = record { name = n; elements = expression es; plain = xs; kept = ys }

-- 'Purchasing writes replacement numbers above `local` lines'; inline trivia below its statement; trivia before a base, an error too; before a missing base; around a suffix
unfoldable pub in_both : List InBoth
in_both =
    both "a replacement number" (local "probe" "1" ++ (token 64 2 "\n" ∷ token 68 2 "# part 4711\n" ∷ local "spare" "2" ++ (token 64 2 "\n" ∷ name "probe")))
    (local_items "probe" "1" ++ (local_items "spare" "2" ++ (t "probe" ∷ newline ∷ [])))
    (local_items "probe" "1" ++ (t "# " ∷ t "part 4711" ∷ newline ∷ local_items "spare" "2" ++ (t "probe" ∷ newline ∷ [])))
    ∷ both "inline" (local "x" "1" ++ (token 64 2 " " ∷ token 65 2 "/*b*/" ∷ token 64 2 " " ∷ name "x"))
    (local_items "x" "1" ++ (t "x" ∷ newline ∷ []))
    (local_items "x" "1" ++ (t "/* " ∷ t "b" ∷ t " */" ∷ newline ∷ t "x" ∷ newline ∷ []))
    ∷ both "before the base" (token 68 2 "# k\n" ∷ token 72 2 "e" ∷ name "x") (t "x" ∷ newline ∷ []) (t "# " ∷ t "k" ∷ newline ∷ t "e" ∷ t "x" ∷ newline ∷ [])
    ∷ both "no base" (token 68 2 "# k\n" ∷ []) (t "/*missing ExprBase*/" ∷ newline ∷ []) (t "# " ∷ t "k" ∷ newline ∷ t "/*missing ExprBase*/" ∷ newline ∷ [])
    ∷ both "a suffix" (name "x" ++ (token 68 2 "# k\n" ∷ node 18 2 ∷ node 43 3 ∷ token 90 4 "i" ∷ [])) (t "x" ∷ t "." ∷ t "i" ∷ newline ∷ []) (t "x" ∷ t "." ∷ t "i" ∷ newline ∷ [])
    ∷ []

-- the image of `[1]`, byte for byte: 8 elements, and 3 bytes of text
abbrev pub one_image : List ℕ
one_image =
    8 ∷ 0 ∷ 0 ∷ 0
    ∷ 1 ∷ 0 ∷ 0 ∷ 0 ∷ 0 ∷ 0 ∷ 0 ∷ 0
    ∷ 2 ∷ 0 ∷ 1 ∷ 0 ∷ 0 ∷ 0 ∷ 0 ∷ 0
    ∷ 10 ∷ 0 ∷ 2 ∷ 0 ∷ 0 ∷ 0 ∷ 0 ∷ 0
    ∷ 98 ∷ 0 ∷ 3 ∷ 0 ∷ 1 ∷ 0 ∷ 0 ∷ 0
    ∷ 2 ∷ 0 ∷ 3 ∷ 0 ∷ 0 ∷ 0 ∷ 0 ∷ 0
    ∷ 8 ∷ 0 ∷ 4 ∷ 0 ∷ 0 ∷ 0 ∷ 0 ∷ 0
    ∷ 87 ∷ 0 ∷ 5 ∷ 0 ∷ 1 ∷ 0 ∷ 0 ∷ 0
    ∷ 99 ∷ 0 ∷ 3 ∷ 0 ∷ 1 ∷ 0 ∷ 0 ∷ 0
    ∷ 3 ∷ 0 ∷ 0 ∷ 0
    ∷ 91 ∷ 49 ∷ 93
    ∷ []

-- the 29 lines of its listing: 'For the tree of `[1]` without spaces'
abbrev pub one_listing : List ℕ
one_listing =
    ascii "records 28 texts 5 runs 1 marks 2\n0 text 1 [\n1 mark 0\n2 if lines 0\n3 block\n4 newline\n5 run 0\n6 group\n7 group\n8 text 1 1\n"
    ++ (ascii "9 if lines 0\n10 text 1 ,\n11 end-if\n12 if lines 0\n13 newline\n14 else\n15 space-or-newline\n16 end-if\n17 group-end\n18 group-end\n"
    ++ ascii "19 run-end 0\n20 block-end\n21 else\n22 text 1  \n23 again 0\n24 end-if\n25 text 1 ]\n26 mark 1\n27 newline\n")
