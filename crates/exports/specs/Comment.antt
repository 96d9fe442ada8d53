-- What the exported function on comments answers.
use Rattle.std.specs.Prelude.{false, cond, List, [], ◌∷◌, ℕ, eqb, Option, Some, None}
use Rattle.std.proofs.lemmas.List.Edits.{sets}
use Rattle.text.specs.Lent.{Lent, LentMut}
use Rattle.items.specs.declared.Size.{Size}
use Rattle.items.specs.Machine.{Outcome, full, reached, printing, seen, no_size}
use Rattle.comments.specs.Comments.{Location, above_item, item_inline, end_of_items, comment}

-- the place with a number: 0 above an item, 1 inline, else after all items
unfoldable pub location : ℕ → Location
location n = cond (eqb n 0) above_item (cond (eqb n 1) item_inline end_of_items)

-- what printing a comment from the start comes to, in the lent buffers
abbrev pub comment_in : LentMut → LentMut → ℕ → Lent → ℕ → Outcome
comment_in records texts kind s at = printing (comment kind s.entry.now (location at)) (seen records.entry.now texts.entry.now (Some (no_size false)))

-- every word of the records then
unfoldable pub records_of : Outcome → List ℕ
records_of (full rs ts) = rs
records_of (reached σ) = σ.records

-- every byte of the texts
unfoldable pub texts_of : Outcome → List ℕ
texts_of (full rs ts) = ts
texts_of (reached σ) = σ.texts

-- how far it has come
unfoldable pub printed_of : Outcome → Option Size
printed_of (full rs ts) = None
printed_of (reached σ) = Some σ.size

-- 0 where printing came to its end, 255 where a number no longer fits, which is no refusal
unfoldable pub code : Option Size → ℕ
code (Some p) = 0
code None = 255

-- the four counts in their places, where printing came to its end: a comment has no run and no mark
unfoldable pub counts_after : List ℕ → Option Size → List ℕ
counts_after old (Some p) = sets old 0 (p.records ∷ p.texts ∷ 0 ∷ 0 ∷ [])
counts_after old None = old
