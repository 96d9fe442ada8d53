-- A file of cases: numbers in little-endian bytes, and fields that have their length in front of their bytes.
use Rattle.std.specs.Prelude.{◌≡◌, ℕ, zero, suc, ◌+◌, ◌*◌, ◌<◌, List, length, take, drop, slice_index, Option, MatchOption}
use Rattle.std.specs.Borrow.{Bor}

-- the number of the first two bytes
abbrev pub le16 : List ℕ → ℕ
le16 s = slice_index s 0 + 256 * slice_index s 1

-- the number of the first three bytes
abbrev pub le24 : List ℕ → ℕ
le24 s = le16 s + 65536 * slice_index s 2

-- the number of the first four bytes
abbrev pub le32 : List ℕ → ℕ
le32 s = le24 s + 16777216 * slice_index s 3

-- the bytes of the first field, whose length takes two bytes
abbrev pub field : List ℕ → List ℕ
field s = take (le16 s) (drop 2 s)

-- what stands behind the first n fields
unfoldable pub behind_fields : ℕ → List ℕ → List ℕ
behind_fields zero s = s
behind_fields (suc n) s = drop (2 + le16 (behind_fields n s)) (behind_fields n s)

-- Of a file of cases of n fields the first case is taken, if there is one, and t is left of s; an item begins with its case.
abbrev pub IsNextCase : ℕ → List ℕ → Option (Bor (List ℕ)) → ℕ → List ℕ → Type 0
IsNextCase n s r m t = (m ≡ n) × MatchOption r ((length s ≡ 0) × (t ≡ s)) (λ x. (0 < length s) × (x.now ≡ s) × (t ≡ behind_fields n s))

-- the bytes of the first field, whose length takes three bytes
abbrev pub long_field : List ℕ → List ℕ
long_field s = take (le24 s) (drop 3 s)

-- what stands behind it
abbrev pub behind_long_field : List ℕ → List ℕ
behind_long_field s = drop (3 + le24 s) s
