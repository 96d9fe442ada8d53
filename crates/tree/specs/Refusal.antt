-- Document 01, 'When a tree is turned away': the tests 1 to 9, each over the whole image before the next.
use Rattle.std.specs.Prelude.{Bool, true, false, cond, not, ◌&&◌, ◌||◌, List, [], ◌∷◌, ℕ, zero, suc, ◌+◌, ◌*◌, leb, ltb, eqb, length, drop}
use Rattle.std.proofs.Math.Option.{Option, none, some}
use Rattle.text.specs.Basic.{ascii, within, sum, starts_with, or_else}
use Rattle.text.specs.Text.{valid, ends_with}
use Rattle.tree.specs.Tree.{Element, count_n, count_b, elements_of}
use Rattle.tree.specs.Image.{kind_in, level_in, element_in}

-- 1: 'The image is too short to read N or B, or its length is not 8 + 8N + B'
unfoldable pub wrong_length : List ℕ → Bool
wrong_length image =
    ltb (length image) 4
    || (ltb (length image) (8 + 8 * count_n image)
    || not (eqb (length image) (8 + 8 * count_n image + count_b image)))

-- 2: 'N is 0 or above 4,096, or B is above 32,000'
unfoldable pub out_of_limits : List ℕ → Bool
out_of_limits image = eqb (count_n image) 0 || (ltb 4096 (count_n image) || ltb 32000 (count_b image))

-- the kinds of tokens begin at 64
abbrev pub is_token : Element → Bool
is_token e = leb 64 e.kind

-- 'the first offending element'
unfoldable pub first_where : (Element → Bool) → List Element → Option ℕ
first_where f [] = none
first_where f (e ∷ es) = cond (f e) (some e.number) (first_where f es)

-- the first of n numbers, from i on, whose test holds
unfoldable pub first_number : (ℕ → Bool) → ℕ → ℕ → Option ℕ
first_number t i zero = none
first_number t i (suc n) = cond (t i) (some i) (first_number t (i + 1) n)

-- 3: 'A kind is not in the tables'
unfoldable pub unknown_kind : Element → Bool
unknown_kind e = not (within 1 56 e.kind || within 64 107 e.kind)

-- 4, of an element behind another: 'a SourceFile or at level 0, above 200, more than one deeper than the element before it, or under a token'
unfoldable pub misplaced : Element → Element → Bool
misplaced before e =
    eqb e.kind 1
    || (eqb e.level 0
    || (ltb 200 e.level
    || (ltb (before.level + 1) e.level
    || (is_token before && ltb before.level e.level))))

-- 4, of the elements behind one: 'or a later one is ..'
unfoldable pub misplaced_after : Element → List Element → Option ℕ
misplaced_after before [] = none
misplaced_after before (e ∷ es) = cond (misplaced before e) (some e.number) (misplaced_after e es)

-- 4: 'The first element is not a SourceFile at level 0, or a later one is ..'
unfoldable pub first_misplaced : List Element → Option ℕ
first_misplaced [] = none
first_misplaced (e ∷ es) = cond (eqb e.kind 1 && eqb e.level 0) (misplaced_after e es) (some e.number)

-- 4, of element i, read at its place
abbrev pub misplaced_in : List ℕ → ℕ → Bool
misplaced_in image zero = not (eqb (kind_in image 0) 1 && eqb (level_in image 0) 0)
misplaced_in image (suc i) = misplaced (element_in image i) (element_in image (suc i))

-- 5: 'A node has a length other than 0'
unfoldable pub node_with_text : Element → Bool
node_with_text e = not (is_token e) && not (eqb e.size 0)

-- the element found, or else n where a test fails: 'N for a wrong sum in 5'
abbrev pub or_sum : Bool → ℕ → Option ℕ → Option ℕ
or_sum right n (some i) = some i
or_sum true n none = none
or_sum false n none = some n

-- 5: 'A node has a length other than 0, or the lengths do not add up to B'
unfoldable pub wrong_sizes : List ℕ → List Element → Option ℕ
wrong_sizes image es = or_sum (eqb (sum (λ e. e.size) es) (count_b image)) (count_n image) (first_where node_with_text es)

-- 6: 'A token's text by itself is not valid UTF-8'
unfoldable pub not_utf8 : Element → Bool
not_utf8 e = is_token e && not (valid e.text)

-- 7: 'A token is a string block'
unfoldable pub string_block : Element → Bool
string_block e = eqb e.kind 82

-- 8: 'a multi-line comment is shorter than 4 bytes or lacks `/*` at its start or `*/` at its end'
abbrev pub misformed_block : List ℕ → Bool
misformed_block s = ltb (length s) 4 || (not (starts_with (ascii "/*") s) || not (ends_with (ascii "*/") s))

-- 8: 'A `#` or `//` comment lacks its opening, or a multi-line comment' is misformed
unfoldable pub misformed : Element → Bool
misformed e =
    (eqb e.kind 68 && not (starts_with (ascii "#") e.text))
    || ((eqb e.kind 69 && not (starts_with (ascii "//") e.text))
    || (eqb e.kind 65 && misformed_block e.text))

-- 9: no identifier among the elements of level l that begin in a run of elements
unfoldable pub no_ident : ℕ → List Element → Bool
no_ident l [] = true
no_ident l (e ∷ es) = cond (ltb e.level l) true (not (eqb e.level l && eqb e.kind 90) && no_ident l es)

-- 9: 'A Name has no identifier token'
unfoldable pub first_nameless : List Element → Option ℕ
first_nameless [] = none
first_nameless (e ∷ es) = cond (eqb e.kind 43 && no_ident (suc e.level) es) (some e.number) (first_nameless es)

-- 9: element i, read at its place, is such a Name
abbrev pub nameless_in : List ℕ → ℕ → Bool
nameless_in image i = eqb (kind_in image i) 43 && no_ident (suc (level_in image i)) (drop (i + 1) (elements_of image))

-- A refusal: 'the answer is the number and the first offending element'.
pub record Refusal : Type 0 where
  pub number : ℕ
  pub element : ℕ

-- a refusal where an element is found
abbrev pub refused_at : ℕ → Option ℕ → Option Refusal
refused_at n none = none
refused_at n (some e) = some (record { number = n; element = e })

-- a refusal of the whole image: 'the first offending element (0 for 1, 2, ..)'
abbrev pub refused_if : ℕ → Bool → Option Refusal
refused_if n b = cond b (some (record { number = n; element = 0 })) none

-- 'Each test runs over the whole image before the next begins': what the tests 1 to 9 say
unfoldable pub tests : List ℕ → List (Option Refusal)
tests image =
    let es = elements_of image in
    refused_if 1 (wrong_length image)
    ∷ refused_if 2 (out_of_limits image)
    ∷ refused_at 3 (first_where unknown_kind es)
    ∷ refused_at 4 (first_misplaced es)
    ∷ refused_at 5 (wrong_sizes image es)
    ∷ refused_at 6 (first_where not_utf8 es)
    ∷ refused_at 7 (first_where string_block es)
    ∷ refused_at 8 (first_where misformed es)
    ∷ refused_at 9 (first_nameless es)
    ∷ []

-- the first refusal of a list of tests
unfoldable pub first_refusal : List (Option Refusal) → Option Refusal
first_refusal [] = none
first_refusal (t ∷ ts) = or_else t (first_refusal ts)

-- why an image is turned away before it is printed
unfoldable pub refusal : List ℕ → Option Refusal
refusal image = first_refusal (tests image)
