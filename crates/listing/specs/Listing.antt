-- The listing of items: 'Fields are parted by one space, and every line ends with LF.'
use Rattle.std.specs.Prelude.{List, [], ◌∷◌, ◌++◌, ℕ}
use Rattle.items.specs.declared.Count.{Count}
use Rattle.items.specs.Item.{Item}
use Rattle.items.specs.Records.{counts_of}
use Rattle.items.specs.Lines.{decimal, field, record_lines}

-- 'First line: the four counts (`texts` is text bytes)'
unfoldable pub head_line : Count → List ℕ
head_line c = field "records" c.records ++ (32 ∷ (field "texts" c.texts ++ (32 ∷ (field "runs" c.runs ++ (32 ∷ (field "marks" c.marks ++ (10 ∷ [])))))))

-- the listing of items
unfoldable pub listing : List Item → List ℕ
listing xs = head_line (counts_of xs) ++ record_lines 0 xs

-- 'or one line with `refused`, number and element'
unfoldable pub refused_line : ℕ → ℕ → List ℕ
refused_line n e = field "refused" n ++ (32 ∷ (decimal e ++ (10 ∷ [])))
