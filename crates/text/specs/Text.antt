-- Characters of a UTF-8 text (RFC 3629), white space (Unicode's White_Space), padding and lines.
use Rattle.std.specs.Prelude.{Bool, true, false, cond, ◌&&◌, ℕ, suc, ◌+◌, ◌-◌, ◌/◌, ◌%◌, leb, ltb, eqb, length, drop}
use Rattle.std.proofs.Math.Option.{Option, none, some}
use mathlib.Core.List.{List, [], ◌∷◌, flatten}
use Rattle.text.specs.Basic.{within, any, drop_while, drop_end, first_or, same_bytes, starts_with}

-- UTF-8, RFC 3629

-- A range of byte values.
pub record Range : Type 0 where
  pub lo : ℕ
  pub hi : ℕ

-- UTF8-tail of RFC 3629
abbrev pub tail : Range
tail = record { lo = 0x80; hi = 0xbf }

-- the bytes from a to b
abbrev pub from : ℕ → ℕ → Range
from a b = record { lo = a; hi = b }

-- what must follow a lead byte, by the syntax of RFC 3629, section 4; none for a byte that leads nothing
unfoldable pub follows : ℕ → Option (List Range)
follows b =
    cond (within 0x00 0x7f b) (some [])
    (cond (within 0xc2 0xdf b) (some (tail ∷ []))
    (cond (eqb b 0xe0) (some (from 0xa0 0xbf ∷ tail ∷ []))
    (cond (eqb b 0xed) (some (from 0x80 0x9f ∷ tail ∷ []))
    (cond (within 0xe1 0xef b) (some (tail ∷ tail ∷ []))
    (cond (eqb b 0xf0) (some (from 0x90 0xbf ∷ tail ∷ tail ∷ []))
    (cond (within 0xf1 0xf3 b) (some (tail ∷ tail ∷ tail ∷ []))
    (cond (eqb b 0xf4) (some (from 0x80 0x8f ∷ tail ∷ tail ∷ []))
    none)))))))

-- what is owed after one byte more; none once the text is wrong
unfoldable pub after_byte : Option (List Range) → ℕ → Option (List Range)
after_byte none b = none
after_byte (some []) b = follows b
after_byte (some (r ∷ rs)) b = cond (within r.lo r.hi b) (some rs) none

-- a character has just ended
abbrev pub nothing_owed : Option (List Range) → Bool
nothing_owed none = false
nothing_owed (some []) = true
nothing_owed (some (r ∷ rs)) = false

-- a text is valid where this is owed before it
unfoldable pub valid_from : Option (List Range) → List ℕ → Bool
valid_from o [] = nothing_owed o
valid_from o (b ∷ s) = valid_from (after_byte o b) s

-- s is valid UTF-8: characters of RFC 3629 and nothing else
abbrev pub valid : List ℕ → Bool
valid s = valid_from (some []) s

-- the bytes of a code point: RFC 3629, section 3
unfoldable pub utf8 : ℕ → List ℕ
utf8 c =
    cond (ltb c 0x80) (c ∷ [])
    (cond (ltb c 0x800) ((0xc0 + c / 64) ∷ (0x80 + c % 64) ∷ [])
    (cond (ltb c 0x10000) ((0xe0 + c / 4096) ∷ (0x80 + c / 64 % 64) ∷ (0x80 + c % 64) ∷ [])
    ((0xf0 + c / 262144) ∷ (0x80 + c / 4096 % 64) ∷ (0x80 + c / 64 % 64) ∷ (0x80 + c % 64) ∷ [])))

-- a group of bytes that is no character of its own: it begins with a tail byte
abbrev pub continues : List ℕ → Bool
continues [] = false
continues (b ∷ g) = within 0x80 0xbf b

-- a byte before the characters of a text: alone, or in front of bytes that continue it
unfoldable pub lead : ℕ → List (List ℕ) → List (List ℕ)
lead b [] = (b ∷ []) ∷ []
lead b (g ∷ gs) = cond (continues g) ((b ∷ g) ∷ gs) ((b ∷ []) ∷ g ∷ gs)

-- the characters of a text, each as its bytes: a new one begins at each byte that is no tail byte
unfoldable pub chars : List ℕ → List (List ℕ)
chars [] = []
chars (b ∷ s) = lead b (chars s)

-- WHITE SPACE

-- 'U+0009-000D, 0020, 0085, 00A0, 1680, 2000-200A, 2028, 2029, 202F, 205F, 3000': Unicode's White_Space
unfoldable pub white_space : List ℕ
white_space =
    0x09 ∷ 0x0a ∷ 0x0b ∷ 0x0c ∷ 0x0d ∷ 0x20 ∷ 0x85 ∷ 0xa0 ∷ 0x1680
    ∷ 0x2000 ∷ 0x2001 ∷ 0x2002 ∷ 0x2003 ∷ 0x2004 ∷ 0x2005 ∷ 0x2006 ∷ 0x2007 ∷ 0x2008 ∷ 0x2009 ∷ 0x200a
    ∷ 0x2028 ∷ 0x2029 ∷ 0x202f ∷ 0x205f ∷ 0x3000 ∷ []

-- a character is white space
unfoldable pub is_white : List ℕ → Bool
is_white g = any (λ c. same_bytes (utf8 c) g) white_space

-- str::trim_end: without the white space at the end
unfoldable pub trim_end : List ℕ → List ℕ
trim_end s = flatten (drop_end is_white (chars s))

-- str::trim_start: without the white space at the start
unfoldable pub trim_start : List ℕ → List ℕ
trim_start s = flatten (drop_while is_white (chars s))

-- str::trim: without the white space at both ends
unfoldable pub trim : List ℕ → List ℕ
trim s = flatten (drop_while is_white (drop_end is_white (chars s)))

-- PADDING AND THE TABLE OF BYTE CLASSES

-- 'Padding counts only tab, LF, FF, CR, space and `*`'
unfoldable pub is_pad : ℕ → Bool
is_pad b = any (eqb b) (0x09 ∷ 0x0a ∷ 0x0c ∷ 0x0d ∷ 0x20 ∷ 0x2a ∷ [])

-- common_ws_prefix: the longest common beginning of two texts that is made of padding
unfoldable pub padding : List ℕ → List ℕ → List ℕ
padding [] t = []
padding (a ∷ s) [] = []
padding (a ∷ s) (b ∷ t) = cond (eqb a b && is_pad a) (a ∷ padding s t) []

-- a character's length by what follows its lead byte; 0 for a byte that leads nothing
abbrev pub length_by : Option (List Range) → ℕ
length_by none = 0
length_by (some rs) = suc (length rs)

-- 'UTF-8 lead lengths'
unfoldable pub lead_length : ℕ → ℕ
lead_length b = length_by (follows b)

-- 'A table of 256 byte classes holds UTF-8 lead lengths and these flags': 8 for padding, 16 for white space
unfoldable pub class_of : ℕ → ℕ
class_of b = lead_length b + (cond (is_pad b) 8 0 + cond (is_white (b ∷ [])) 16 0)

-- LINES

-- a byte in front of the first line
abbrev pub in_first : ℕ → List (List ℕ) → List (List ℕ)
in_first b [] = (b ∷ []) ∷ []
in_first b (l ∷ ls) = (b ∷ l) ∷ ls

-- a text's lines, parted at each LF
unfoldable pub lines : List ℕ → List (List ℕ)
lines [] = [] ∷ []
lines (b ∷ s) = cond (eqb b 10) ([] ∷ lines s) (in_first b (lines s))

-- where the line that begins at a place ends
unfoldable pub line_end : List ℕ → ℕ → ℕ
line_end s at = at + length (first_or [] (lines (drop at s)))

-- the second text ends with the first
abbrev pub ends_with : List ℕ → List ℕ → Bool
ends_with t s = leb (length t) (length s) && starts_with t (drop (length s - length t) s)
