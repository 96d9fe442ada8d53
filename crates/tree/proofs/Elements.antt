-- The elements of an image one at a time.
use mathlib.Core.Path.{◌≡◌, refl, ap, ◌∙◌}
use mathlib.Core.List.{List, [], ◌∷◌}
use Prim.Native.Nat.{ℕ, zero, suc, ◌+◌, ◌*◌, ◌-◌, ◌<◌, ◌≤◌}
use native.Mathlib.Omega.{arith}
use native.Mathlib.Numerals.{add-one}
use lib.ListN.{drop, length}
use lib.Seq.{drop-drop, get_or-drop}
use Rattle.text.specs.Basic.{sum}
use Rattle.tree.specs.Tree.{le16, le32, elements, count_n, texts_of, elements_of}
use Rattle.tree.specs.Image.{kind_in, level_in, size_in, start_in, text_in, element_in}

pub le16-drop : (n : ℕ) (s : List ℕ) (i : ℕ) → le16 (drop n s) i ≡ le16 s (n + i)
unfolding le16
le16-drop n s i =
    let e : n + (i + 1) ≡ n + i + 1 = omega arith in
    rw (get_or-drop n s i 0, get_or-drop n s (i + 1) 0, e)

pub le32-drop : (n : ℕ) (s : List ℕ) (i : ℕ) → le32 (drop n s) i ≡ le32 s (n + i)
unfolding le32
le32-drop n s i =
    let e : n + (i + 2) ≡ n + i + 2 = omega arith in
    rw (le16-drop n s i, le16-drop n s (i + 2), e)

kind-drop : (image : List ℕ) (i : ℕ) → le16 (drop (4 + 8 * i) image) 0 ≡ kind_in image i
unfolding kind_in
kind-drop image i =
    let e : 4 + 8 * i + 0 ≡ 4 + 8 * i = omega arith in
    rw (le16-drop (4 + 8 * i) image 0, e)

-- level and length stand behind the kind
pub level_in_lem : (image : List ℕ) (i : ℕ) → le16 image (4 + 8 * i + 2) ≡ level_in image i
unfolding level_in
level_in_lem image i = ap (le16 image) (omega arith)

pub size_in_lem : (image : List ℕ) (i : ℕ) → le32 image (4 + 8 * i + 4) ≡ size_in image i
unfolding size_in
size_in_lem image i = ap (le32 image) (omega arith)

level-drop : (image : List ℕ) (i : ℕ) → le16 (drop (4 + 8 * i) image) 2 ≡ level_in image i
level-drop image i = le16-drop (4 + 8 * i) image 2 ∙ level_in_lem image i

size-drop : (image : List ℕ) (i : ℕ) → le32 (drop (4 + 8 * i) image) 4 ≡ size_in image i
size-drop image i = le32-drop (4 + 8 * i) image 4 ∙ size_in_lem image i

-- the elements from number i on
elements-from : (image : List ℕ) (i : ℕ) → i ≤ count_n image
    → drop i (elements_of image) ≡ elements (count_n image - i) i (drop (4 + 8 * i) image) (drop (start_in image i) (texts_of image))
unfolding elements_of start_in elements
elements-from image zero h =
    let e : count_n image - 0 ≡ count_n image = omega arith in
    rw e
elements-from image (suc i) h =
    let q : count_n image - i ≡ suc (count_n image - suc i) = omega arith in
    let r : 4 + 8 * suc i ≡ 4 + 8 * i + 8 = omega arith in
    let s : drop (suc i) (elements_of image) ≡ drop 1 (drop i (elements_of image)) = rw (drop-drop 1 i (elements_of image), add-one i) in
    s ∙ rw (elements-from image i (omega arith), q, drop-drop 8 (4 + 8 * i) image, drop-drop (le32 (drop (4 + 8 * i) image) 4) (start_in image i) (texts_of image), size-drop image i, r)

cons_drop : {A : Type 0} (l : List A) (i : ℕ) {x : A} {xs : List A} → drop i l ≡ x ∷ xs → drop i l ≡ x ∷ drop (i + 1) l
cons_drop l i h = rw (← (drop-drop 1 i l), h)

-- the elements from number i on: element i, and those behind it
pub elements-cons : (image : List ℕ) (i : ℕ) → i < count_n image → drop i (elements_of image) ≡ element_in image i ∷ drop (i + 1) (elements_of image)
unfolding elements text_in
elements-cons image i h =
    let q : count_n image - i ≡ suc (count_n image - suc i) = omega arith in
    let e : drop i (elements_of image) ≡ _ = elements-from image i (omega arith) in
    cons_drop (elements_of image) i (rw (q, kind-drop image i, level-drop image i, size-drop image i) at e)

-- behind the last element
pub elements-none : (image : List ℕ) (i : ℕ) → count_n image ≡ i → drop i (elements_of image) ≡ []
unfolding elements
elements-none image i h =
    let q : count_n image - i ≡ 0 = omega arith in
    rw (elements-from image i (omega arith), q)

length-elements : (c n : ℕ) (bs ts : List ℕ) → length (elements c n bs ts) ≡ c
unfolding elements
length-elements zero n bs ts = refl
length-elements (suc c) n bs ts = ap suc (length-elements c (suc n) (drop 8 bs) (drop (le32 bs 4) ts))

-- N elements
pub elements-count : (image : List ℕ) → length (elements_of image) ≡ count_n image
unfolding elements_of
elements-count image = length-elements (count_n image) 0 (drop 4 image) (texts_of image)

-- the lengths of the elements before i, and of those from i on, are those of all
sizes-split : (image : List ℕ) (i : ℕ) → i ≤ count_n image → start_in image i + sum (λ e. e.size) (drop i (elements_of image)) ≡ sum (λ e. e.size) (elements_of image)
unfolding start_in sum
sizes-split image zero h = omega arith
sizes-split image (suc i) h =
    let p : start_in image i + sum (λ e. e.size) (drop i (elements_of image)) ≡ sum (λ e. e.size) (elements_of image) = sizes-split image i (omega arith) in
    let q : sum (λ e. e.size) (drop i (elements_of image)) ≡ size_in image i + sum (λ e. e.size) (drop (suc i) (elements_of image)) = rw (elements-cons image i (omega arith), add-one i) in
    omega arith

-- the texts end where the lengths of all elements add up to
pub sizes-all : (image : List ℕ) → start_in image (count_n image) ≡ sum (λ e. e.size) (elements_of image)
unfolding sum
sizes-all image =
    let p : start_in image (count_n image) + sum (λ e. e.size) (drop (count_n image) (elements_of image)) ≡ sum (λ e. e.size) (elements_of image) = sizes-split image (count_n image) (omega arith) in
    let q : sum (λ e. e.size) (drop (count_n image) (elements_of image)) ≡ 0 = rw (elements-none image (count_n image) refl) in
    omega arith

-- the text of the next element starts behind this one's
pub start-next : (image : List ℕ) (i : ℕ) → start_in image (i + 1) ≡ start_in image i + size_in image i
unfolding start_in
start-next image i = rw add-one
