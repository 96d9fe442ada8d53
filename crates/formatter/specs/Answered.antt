-- What holds of an answer: the buffers that come back, their items put back, the counts, the bound; and that a listing can be read back.
use Rattle.std.specs.Prelude.{◌≡◌, List, ℕ, ◌+◌, ◌*◌, ◌≤◌, take}
use Rattle.std.proofs.Math.Option.{some}
use Rattle.numbers.specs.declared.mode.Mode.{Mode}
use Rattle.items.specs.Item.{Item, ok, in_mode}
use Rattle.items.specs.Records.{record_size, words, bytes, counts_of, decoded}
use Rattle.tree.specs.Tree.{count_n, count_b, tree_of}
use Rattle.printer.specs.Print.{source_file}
use Rattle.items.specs.declared.Count.{Count}
use Rattle.listing.specs.Unlisted.{unlisted}
use Rattle.formatter.specs.PutBack.{put_back}
use Rattle.formatter.specs.Plain.{plain_file}

-- What holds of a mode, an image and the buffers rs and ts that come back with the counts c: the records decode to the printing's items, which
-- put back are the plain printing, the counts are theirs, and they are at most 24 for each element and 4 for each byte.
pub record Answered (m : Mode) (image rs ts : List ℕ) (c : Count) : Type 0 where
  pub items : List Item
  pub decodes : decoded rs ts c.records ≡ some items
  pub printing : source_file (tree_of image) (in_mode m) 0 ≡ ok items c.runs
  pub counts : c ≡ counts_of items
  pub plain : plain_file (tree_of image) (in_mode m) 0 ≡ ok (put_back items) c.runs
  pub marks : c.marks ≡ 2 * c.runs
  pub bound : c.records ≤ 24 * count_n image + 4 * count_b image

-- What holds of the buffers rs, ts and ls that come back with the counts c and a listing of n bytes: what is read back from these bytes has the
-- counts, records and texts. Document 02, Ask 2: 'Equal listings must then mean equal records and texts.' `unlisted` looks at
-- these bytes alone, so equal ones are of equal counts, records and texts.
pub record ReadBack (rs ts ls : List ℕ) (c : Count) (n : ℕ) : Type 0 where
  pub counts : c ≡ counts_of (unlisted (take n ls))
  pub records : take (record_size * c.records) rs ≡ words 0 (unlisted (take n ls))
  pub texts : take c.texts ts ≡ bytes (unlisted (take n ls))
