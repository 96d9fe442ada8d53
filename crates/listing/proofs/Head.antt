-- The length of the line of counts.
use mathlib.Core.Path.{◌≡◌}
use Prim.Native.Nat.{ℕ, ◌+◌, ◌≤◌, ◌<◌, ◌^◌}
use native.Mathlib.Omega.{arith}
use lib.ListN.{length, length-append}
use Rattle.items.specs.declared.Count.{Count}
use Rattle.items.specs.Lines.{field}
use Rattle.items.specs.Names.{other_names, names_of, name_at}
use Rattle.items.proofs.Lengths.{field-short}
use Rattle.items.specs.declared.names.Table.TheVariants.{Others}
use Rattle.listing.specs.Listing.{head_line}

module _ (c : Count) where
  -- its four fields and LF
  abbrev four : ℕ
  four = length (field (name_at Others 1) c.records) + length (field (name_at Others 2) c.texts) + length (field (name_at Others 3) c.runs) + length (field (name_at Others 4) c.marks)

  four_long : four + 1 ≡ length (head_line c)
  unfolding head_line other_names names_of name_at
  four_long = simp length-append (omega arith)

  module _ (p : c.records < 2 ^ 32) (q : c.texts < 2 ^ 32) (r : c.runs < 2 ^ 32) (s : c.marks < 2 ^ 32) where
    pub four-short : four ≤ 108
    four-short = omega (arith, field-short Others 1 c.records p, field-short Others 2 c.texts q, field-short Others 3 c.runs r, field-short Others 4 c.marks s)

    pub head-short : length (head_line c) ≤ 109
    head-short = omega (arith, four_long, four-short)

  pub head-long : {a b d e : ℕ} → a ≡ length (field (name_at Others 1) c.records) → b ≡ length (field (name_at Others 2) c.texts) → d ≡ length (field (name_at Others 3) c.runs) → e ≡ length (field (name_at Others 4) c.marks)
      → a + b + d + e + 1 ≡ length (head_line c)
  head-long h i j k = omega (arith, four_long)
