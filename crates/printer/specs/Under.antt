-- What an element of an image prints, over the index: its kind, its text, its parts and what its children print.
use Rattle.std.specs.Prelude.{ℕ, suc, ◌+◌, ◌<◌, List, drop}
use Rattle.items.specs.Item.{Print}
use Rattle.tree.specs.Tree.{Forest, Part, count_n, elements_of, forest, texts, parts}
use Rattle.tree.specs.Image.{kind_in, level_in, text_in}
use Rattle.tree.specs.Index.{end_at, parts_from, Indexed, Child}
use Rattle.printer.specs.Print.{element, prints}

-- the children of element i
abbrev pub kids_of : List ℕ → ℕ → Forest
kids_of image i = forest (suc (level_in image i)) (drop (i + 1) (elements_of image))

-- what the children of element i print, by their numbers
unfoldable pub under : List ℕ → ℕ → ℕ → Print
under image i = prints (kids_of image i)

-- what element i prints
unfoldable pub print_of : List ℕ → ℕ → Print
print_of image i = element (under image i) (kind_in image i) i (text_in image i) (texts (kids_of image i)) (parts (kids_of image i))

-- the parts of element i over the index
abbrev pub parts_of : List ℕ → List ℕ → ℕ → List Part
parts_of image index i = parts_from image index (i + 1) (end_at index i)

-- Element i of an image with its index.
pub record At (image index : List ℕ) (i : ℕ) : Type 0 where
  pub indexed : Indexed image index
  pub within : i < count_n image

-- j is a child of element i.
pub record Kid (image index : List ℕ) (i j : ℕ) : Type 0 where
  pub at : At image index i
  pub child : Child image i j
  pub before : j < end_at index i
