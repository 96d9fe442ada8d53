-- The index of a tree: for each element its kind, where its subtree ends and where in the image its text starts, and an entry more for the end.
use Rattle.std.specs.Prelude.{◌≡◌, Bool, true, cond, not, ◌&&◌, List, [], ◌∷◌, ℕ, zero, suc, ◌+◌, ◌*◌, ◌-◌, ◌^◌, ◌<◌, ◌≤◌, ltb, leb, length, get_or, take, drop}
use Rattle.std.proofs.Math.Option.{none}
use Rattle.text.specs.Basic.{present}
use Rattle.tree.specs.Tree.{Part, count_n, Element, elements_of}
use Rattle.tree.specs.Image.{kind_in, place_in, level_in}
use Rattle.tree.specs.Refusal.{refusal}

-- how many elements at the start of a run are deeper than level l
unfoldable pub deeper : ℕ → List Element → ℕ
deeper l [] = 0
deeper l (e ∷ es) = cond (ltb l e.level) (suc (deeper l es)) 0

-- where the subtree of element i ends: the next element that is no deeper, or else N
unfoldable pub end_in : List ℕ → ℕ → ℕ
end_in image i = i + 1 + deeper (level_in image i) (drop (i + 1) (elements_of image))

-- the kind of element i
unfoldable pub kind_at : List ℕ → ℕ → ℕ
kind_at index i = get_or index (i * 3) 0

-- where the subtree of element i ends
unfoldable pub end_at : List ℕ → ℕ → ℕ
end_at index i = get_or index (i * 3 + 1) 0

-- where the text of element i starts
unfoldable pub start_at : List ℕ → ℕ → ℕ
start_at index i = get_or index (i * 3 + 2) 0

-- The entry i of an index.
pub record Entry (index : List ℕ) (i kind end start : ℕ) : Type 0 where
  pub kinds : kind_at index i ≡ kind
  pub ends : end_at index i ≡ end
  pub starts : start_at index i ≡ start

-- how many numbers an index has
abbrev pub index_size : List ℕ → ℕ
index_size image = count_n image * 3 + 3

-- The entries of an index from element i on are the tree's.
pub record IndexedFrom (image index : List ℕ) (i : ℕ) : Type 0 where
  pub room : index_size image ≤ length index
  pub entry : (j : ℕ) → i ≤ j → j < count_n image → Entry index j (kind_in image j) (end_in image j) (place_in image j)
  pub last : Entry index (count_n image) 0 (count_n image) (place_in image (count_n image))

-- The image passed the tests 1 to 9, and the index is its tree's.
pub record Indexed (image index : List ℕ) : Type 0 where
  pub passed : refusal image ≡ none
  pub entries : IndexedFrom image index 0

-- The image passed the tests 1 to 9, and a table has room for its index.
pub record Indexable (image table : List ℕ) : Type 0 where
  pub passed : refusal image ≡ none
  pub room : index_size image ≤ length table

-- A table after the index was written into it: what stands behind the index is as before.
pub record Filled (image before after : List ℕ) : Type 0 where
  pub indexed : Indexed image after
  pub kept : drop (index_size image) after ≡ drop (index_size image) before
  pub sized : length after ≡ length before

-- an image passed the tests 1 to 9, and a table has room for its index
abbrev pub indexes : List ℕ → List ℕ → Bool
indexes image table = not (present (refusal image)) && leb (index_size image) (length table)

-- A table after any image was tried on it, and whether its index was written.
pub record Tried (image before after : List ℕ) (r : Bool) : Type 0 where
  pub told : r ≡ indexes image before
  pub filled : r ≡ true → Filled image before after

-- the joined text of the tokens under element i
unfoldable pub text_at : List ℕ → List ℕ → ℕ → List ℕ
text_at image index i = take (start_at index (end_at index i) - start_at index i) (drop (start_at index i) image)

-- element i as its parent sees it
abbrev pub part_at : List ℕ → List ℕ → ℕ → Part
part_at image index i = record { number = i; kind = kind_at index i; text = text_at image index i }

-- at most n siblings, from a on, that begin before b
unfoldable pub walk : ℕ → List ℕ → List ℕ → ℕ → ℕ → List Part
walk zero image index a b = []
walk (suc n) image index a b = cond (ltb a b) (part_at image index a ∷ walk n image index (end_at index a) b) []

-- the siblings from a on that begin before b
unfoldable pub parts_from : List ℕ → List ℕ → ℕ → ℕ → List Part
parts_from image index a b = walk (b - a) image index a b

-- The index has n elements, at most 4,096, and an entry for the end of the texts, a number of 32 bits; ends lie behind their elements, and
-- texts do not go back.
pub record Table (image index : List ℕ) (n : ℕ) : Type 0 where
  pub size : n * 3 + 3 ≤ length index
  pub few : n ≤ 4096
  pub past : (i : ℕ) → i < n → i < end_at index i
  pub inside : (i : ℕ) → i < n → end_at index i ≤ n
  pub forward : (i j : ℕ) → i ≤ j → j ≤ n → start_at index i ≤ start_at index j
  pub whole : start_at index n ≡ length image
  pub short : length image < 2 ^ 32

-- A walk may go on at a, up to b.
pub record Region (image index : List ℕ) (a b : ℕ) : Type 0 where
  pub n : ℕ
  pub table : Table image index n
  pub begins : a ≤ n
  pub ends : b ≤ n

-- Ends lie behind their elements, from a on up to b.
pub record Forward (index : List ℕ) (a b : ℕ) : Type 0 where
  pub past : (i : ℕ) → a ≤ i → i < b → i < end_at index i

-- j is a child of i, or the end of i's children
pub record Child (image : List ℕ) (i j : ℕ) : Type 0 where
  pub node : i < count_n image
  pub behind : i < j
  pub upto : j ≤ end_in image i
  pub level : j < end_in image i → level_in image j ≡ suc (level_in image i)
