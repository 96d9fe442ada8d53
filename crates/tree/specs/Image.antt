-- The element with a number, read at its place in the image.
use Rattle.std.specs.Prelude.{List, ℕ, zero, suc, ◌+◌, ◌*◌, drop, take}
use Rattle.tree.specs.Tree.{le16, le32, Element, count_n, texts_of}
use Rattle.tree.specs.declared.bytes.Header.{Header}

-- 'kind u16, level u16, length u32': the eight bytes at a place
unfoldable pub header_at : List ℕ → ℕ → Header
header_at s at = record { kind = le16 s at; level = le16 s (at + 2); size = le32 s (at + 4) }

-- 'kind u16': the first two of element i's eight bytes
unfoldable pub kind_in : List ℕ → ℕ → ℕ
kind_in image i = le16 image (4 + 8 * i)

-- 'level u16'
unfoldable pub level_in : List ℕ → ℕ → ℕ
level_in image i = le16 image (6 + 8 * i)

-- 'length u32'
unfoldable pub size_in : List ℕ → ℕ → ℕ
size_in image i = le32 image (8 + 8 * i)

-- where the text of element i starts in the texts: behind those of the elements before it
unfoldable pub start_in : List ℕ → ℕ → ℕ
start_in image zero = 0
start_in image (suc i) = start_in image i + size_in image i

-- where it starts in the image: the texts stand behind N, the elements and B
abbrev pub place_in : List ℕ → ℕ → ℕ
place_in image i = 8 + 8 * count_n image + start_in image i

-- the text of element i
unfoldable pub text_in : List ℕ → ℕ → List ℕ
text_in image i = take (size_in image i) (drop (start_in image i) (texts_of image))

-- element i
abbrev pub element_in : List ℕ → ℕ → Element
element_in image i = record { number = i; kind = kind_in image i; level = level_in image i; size = size_in image i; text = text_in image i }
