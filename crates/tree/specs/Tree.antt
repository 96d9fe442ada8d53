-- A tree image's elements, the tree that their levels make, and a child as its parent sees it.
use Rattle.std.specs.Prelude.{Bool, true, false, List, [], ◌∷◌, ◌++◌, ℕ, zero, suc, ◌+◌, ◌*◌, ltb, eqb, drop, take, get_or}

-- the byte at i
abbrev pub byte : List ℕ → ℕ → ℕ
byte s i = get_or s i 0

-- the little-endian number of the two bytes at i
unfoldable pub le16 : List ℕ → ℕ → ℕ
le16 s i = byte s i + 256 * byte s (i + 1)

-- the little-endian number of the four bytes at i
unfoldable pub le32 : List ℕ → ℕ → ℕ
le32 s i = le16 s i + 65536 * le16 s (i + 2)

-- An element: its number, its kind, its level, the length that the image gives it, and its text.
pub record Element : Type 0 where
  pub number : ℕ
  pub kind : ℕ
  pub level : ℕ
  pub size : ℕ
  pub text : List ℕ

-- the element with this number whose eight bytes (kind u16, level u16, length u32) begin a section, and whose text begins the texts
abbrev pub element_of : ℕ → List ℕ → List ℕ → Element
element_of n bytes texts = record { number = n; kind = le16 bytes 0; level = le16 bytes 2; size = le32 bytes 4; text = take (le32 bytes 4) texts }

-- c elements, numbered from n: a section of eight bytes each, and their texts joined
unfoldable pub elements : ℕ → ℕ → List ℕ → List ℕ → List Element
elements zero n bytes texts = []
elements (suc c) n bytes texts = element_of n bytes texts ∷ elements c (suc n) (drop 8 bytes) (drop (le32 bytes 4) texts)

-- Siblings in order, each with its children.
pub data Forest : Type 0 where
  nil : Forest
  tree : Element → Forest → Forest → Forest

-- the first whose test holds, else the last
abbrev pub choose : {A : Type 0} → Bool → Bool → A → A → A → A
choose true b x y z = x
choose false true x y z = y
choose false false x y z = z

-- the elements at level m that begin in a run of elements, until one above m ends it
unfoldable pub forest : ℕ → List Element → Forest
forest m [] = nil
forest m (e ∷ es) =
    choose (ltb e.level m) (eqb e.level m)
    nil
    (tree e (forest (suc m) es) (forest m es))
    (forest m es)

-- the joined texts of the tokens of a forest
unfoldable pub texts : Forest → List ℕ
texts nil = []
texts (tree e kids rest) = e.text ++ (texts kids ++ texts rest)

-- A child as its parent sees it: its number, its kind, and the joined texts of its tokens.
pub record Part : Type 0 where
  pub number : ℕ
  pub kind : ℕ
  pub text : List ℕ

-- the children that a forest holds
unfoldable pub parts : Forest → List Part
parts nil = []
parts (tree e kids rest) = record { number = e.number; kind = e.kind; text = e.text ++ texts kids } ∷ parts rest

-- 'u32 N'
unfoldable pub count_n : List ℕ → ℕ
count_n image = le32 image 0

-- 'u32 B', behind N elements of 8 bytes
unfoldable pub count_b : List ℕ → ℕ
count_b image = le32 image (4 + 8 * count_n image)

-- 'B text bytes, the token texts joined in element order', behind N, the elements and B
unfoldable pub texts_of : List ℕ → List ℕ
texts_of image = drop (8 + 8 * count_n image) image

-- 'N elements of 8 bytes (kind u16, level u16, length u32), in preorder'
unfoldable pub elements_of : List ℕ → List Element
elements_of image = elements (count_n image) 0 (drop 4 image) (texts_of image)

-- the tree of an image: 'The first element is the SourceFile at level 0; a child's level is its parent's plus one'
abbrev pub tree_of : List ℕ → Forest
tree_of image = forest 0 (elements_of image)
