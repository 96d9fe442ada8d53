-- The examples A to L, computed, and `[1]` from its image to its listing.
use mathlib.Core.Path.{◌≡◌, refl, ap}
use mathlib.Core.Bool.{Bool, true, false≢true}
use mathlib.Core.Option.{some}
use mathlib.Core.List.{List, [], ◌∷◌, ◌++◌, flatten}
use Prim.Native.Nat.{ℕ}
use native.Mathlib.Omega.{arith}
use lib.Dec.{eqb}
use lib.ListN.{length}
use borrow.Author.Tests.{eqb-true}
use Rattle.text.specs.Basic.{any, all, sum, drop_while, drop_end, same_bytes, starts_with, count, All, ∅, ◌▹◌}
use Rattle.text.specs.Text.{follows, after_byte, valid_from, trim_end, trim, lines as text_lines, padding, chars, lead, is_white, white_space, utf8, is_pad}
use Rattle.text.proofs.Lists.{and_true}
use Rattle.items.specs.Item.{Item, none as nothing, say, says, lit, when, keeping, with_number, open_run, ◌⨟◌}
use Rattle.numbers.specs.declared.mode.Mode.TheVariants.{Plain, Keeping}
use Rattle.items.specs.Records.{words, bytes, decoded}
use Rattle.items.proofs.Decoding.{decoded_is, words-length}
use Rattle.comments.specs.Comments
use Rattle.comments.specs.Comments.{multi_line, error_items, single_line, block_of, block_lines, immediate, common, common_padding, unpadded, tabbed, one_line, on_one_line, many_lines}
use Rattle.tree.specs.Tree.{le16, le32, count_n, count_b, texts_of, elements, elements_of, forest, texts, parts}
use Rattle.tree.specs.Class.{kinds, one_of, nth_of}
use Rattle.tree.specs.Refusal.{wrong_length, out_of_limits, first_where, unknown_kind, misplaced, misplaced_after, first_misplaced, node_with_text, wrong_sizes, not_utf8, string_block, misformed, no_ident, first_nameless, tests, first_refusal, refusal}
use Rattle.children.specs.Reading.{between, pass, step, behind, up_to, newlines_before, newlines_back, strict, trivia_before, trivia_after}
use Rattle.plan.specs.Comments.{comments}
use Rattle.printer.specs.Layout.{rows, pick}
use Rattle.printer.specs.Combine.{comma, test_of, bracketed}
use Rattle.printer.specs.Print.{shared, indented, part_or, what, row, with_comments, children, list, local_of, statement, statements, statements_of, values, values_of, expression, element, prints, source_of, source, source_file}
use Rattle.items.specs.Lines.{digits, decimal, escaped_byte, escaped, described, record_lines, kind_names}
use Rattle.listing.specs.Listing.{head_line, listing}
use Rattle.listing.specs.Examples.{one_items}
use Rattle.formatter.specs.Answer.{Verdict, turned_away, printed, from_printing, from_tests, verdict, with_room, with_listing, ruling}
use Rattle.formatter.specs.Program.{judged, printed_of, response}
use Rattle.formatter.specs.Examples.{Example, result, same_items, gives, passes, examples, InBoth, image_of, passes_both, in_both, one_image, one_listing}
use Rattle.formatter.proofs.Responses.{blank-long}

computed : all passes examples ≡ true
unfolding examples all same_bytes words bytes any drop_while drop_end starts_with count sum flatten follows after_byte valid_from trim_end trim text_lines padding chars lead is_white white_space utf8 is_pad ◌⨟◌ nothing say says lit when keeping with_number open_run Comments.comment multi_line single_line block_of block_lines immediate common common_padding unpadded tabbed one_line on_one_line many_lines le16 le32 count_n count_b texts_of elements elements_of forest texts parts kinds one_of nth_of between pass step behind up_to newlines_before newlines_back strict trivia_before trivia_after comments rows pick comma test_of bracketed shared indented part_or what row with_comments children list statement statements statements_of values values_of expression element prints source_of source source_file wrong_length out_of_limits first_where unknown_kind misplaced misplaced_after first_misplaced node_with_text wrong_sizes not_utf8 string_block misformed first_nameless tests first_refusal refusal from_printing from_tests verdict
computed = refl

-- every tree prints what is said of it in both modes
both-computed : all passes_both in_both ≡ true
unfolding in_both all same_bytes words bytes any drop_while drop_end starts_with count sum flatten follows after_byte valid_from trim_end trim text_lines padding chars lead is_white white_space utf8 is_pad ◌⨟◌ nothing say says lit when keeping Comments.comment multi_line error_items single_line block_of block_lines immediate on_one_line le16 le32 count_n count_b texts_of elements elements_of forest texts parts kinds one_of nth_of between pass step behind up_to newlines_before newlines_back strict trivia_before trivia_after comments rows pick part_or what row local_of statement statements statements_of values values_of expression element prints source_of source source_file wrong_length out_of_limits first_where unknown_kind misplaced misplaced_after first_misplaced node_with_text wrong_sizes not_utf8 string_block misformed first_nameless no_ident tests first_refusal refusal from_printing from_tests verdict
both-computed = refl

same_true : (xs ys : List ℕ) → same_bytes xs ys ≡ true → xs ≡ ys
unfolding same_bytes
same_true [] [] h = refl
same_true [] (y ∷ ys) h = absurd (false≢true h)
same_true (x ∷ xs) [] h = absurd (false≢true h)
same_true (x ∷ xs) (y ∷ ys) h = let (a, b) = and_true (eqb x y) (same_bytes xs ys) h in rw (eqb-true x y a, same_true xs ys b) refl

-- items with the same records and texts are the same
items_true : (xs ys : List Item) → same_items xs ys ≡ true → xs ≡ ys
items_true xs ys h =
    let (a, b) = and_true (same_bytes (words 0 xs) (words 0 ys)) (same_bytes (bytes xs) (bytes ys)) h in
    let w = same_true (words 0 xs) (words 0 ys) a in
    let s = same_true (bytes xs) (bytes ys) b in
    let l : length xs ≡ length ys = omega (arith, words-length 0 xs, words-length 0 ys, ap length w) in
    let p : decoded (words 0 ys ++ []) (bytes ys ++ []) (length ys) ≡ some xs = rw (w, s, l) at (decoded_is xs [] []) in
    let q = decoded_is ys [] [] in
    cc

gives_true : (v : Verdict) (ys : List Item) → gives v ys ≡ true → v ≡ printed ys
gives_true (turned_away n e) ys h = absurd (false≢true h)
gives_true (printed xs) ys h = rw (items_true xs ys h) refl

-- what a computed test over a list says of each member
all_true : {A : Type 0} (f : A → Bool) (xs : List A) → all f xs ≡ true → All (λ x. f x ≡ true) xs
unfolding all
all_true f [] h = ∅
all_true f (x ∷ xs) h = let (p, q) = and_true (f x) (all f xs) h in p ▹ all_true f xs q

all-examples : (xs : List Example) → All (λ x. passes x ≡ true) xs → All (λ x. result x.source ≡ printed x.expected) xs
all-examples [] ∅ = ∅
all-examples (x ∷ xs) (h ▹ r) = gives_true (result x.source) x.expected h ▹ all-examples xs r

-- every example prints what the paper says
pub examples_hold : All (λ x. result x.source ≡ printed x.expected) examples
examples_hold = all-examples examples (all_true passes examples computed)

all_both : (xs : List InBoth) → All (λ x. passes_both x ≡ true) xs → All (λ x. (verdict Plain (image_of x.elements) ≡ printed x.plain) × (verdict Keeping (image_of x.elements) ≡ printed x.kept)) xs
all_both [] ∅ = ∅
all_both (x ∷ xs) (h ▹ r) =
    let (p, q) = and_true (gives (verdict Plain (image_of x.elements)) x.plain) (gives (verdict Keeping (image_of x.elements)) x.kept) h in
    (gives_true _ x.plain p, gives_true _ x.kept q) ▹ all_both xs r

-- trees in both modes, the comment `# part 4711` between two locals first
pub both_hold : All (λ x. (verdict Plain (image_of x.elements) ≡ printed x.plain) × (verdict Keeping (image_of x.elements) ≡ printed x.kept)) in_both
both_hold = all_both in_both (all_true passes_both in_both both-computed)

first_of : {A : Type 0} {P : A → Type 0} {x : A} {xs : List A} → All P (x ∷ xs) → P x
first_of (h ▹ r) = h

one-printed : verdict Plain one_image ≡ printed one_items
unfolding examples flatten
one-printed = first_of examples_hold

-- what the program prints of the image of `[1]`, byte for byte
pub one-response : response Plain one_image ≡ one_listing
unfolding response judged ruling with_room with_listing printed_of kind_names digits decimal escaped_byte escaped described record_lines head_line listing bytes sum flatten
one-response = rw (one-printed, blank-long, blank-long, blank-long)
