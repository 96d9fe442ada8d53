-- What the numbers that the code walks with mean: gaps, and what a survey of a reading says.
use Rattle.std.specs.Prelude.{◌≡◌, Bool, true, false, cond, not, List, ℕ, ◌+◌, ◌*◌, ◌<◌, ◌≤◌, length}
use Rattle.tree.specs.declared.class.Kinds.{Kinds}
use Rattle.tree.specs.Index.{Region, parts_from, part_at, end_at}
use Rattle.children.specs.declared.gap.End.TheVariants as End
use Rattle.children.specs.declared.gap.Span.{Span}
use Rattle.children.specs.declared.survey.Outline.{Outline}
use Rattle.children.specs.Gaps.{Gap, gap_of, Gaps, gaps, last_gap, is_foreign, ended_by, Sums, foreign_at, sums, gap_sums, end_of}
use Rattle.children.specs.Stretch.{Stretch, inline_in, waiting_in}
use Rattle.children.specs.Tally.{Tells}

-- the gap that three numbers mean
abbrev pub gap_at : List ℕ → List ℕ → Span → Gap
gap_at image index r = gap_of (inline_in image index r.from r.cut) (waiting_in image index r.from r.cut r.to) r.had

-- the gaps from a span on: it, and by what ends it a child at its end, with the gaps behind that child, nothing, or a foreign element there
unfoldable pub spanned : List ℕ → List ℕ → Kinds → Bool → ℕ → Span → Gaps
spanned image index w loose b r =
    ended_by r.end (gap_at image index r) (part_at image index r.to) (gaps w loose false true (parts_from image index (end_at index r.to) b))

-- The numbers of a gap are reached one from another, and its tally is that of what it holds.
pub record Lies (image index : List ℕ) (r : Span) : Type 0 where
  pub first : Stretch image index r.from r.cut
  pub second : Stretch image index r.cut r.to
  pub tells : Tells (gap_at image index r).inline (gap_at image index r).waiting r.tally
  -- its newlines are no more than there are bytes, and two for each element
  pub few : r.tally.before + r.tally.back ≤ length image + 2 * first.n

-- r is the gap at `from` of a reading up to b, behind a child or at the reading's start.
pub record Spans (image index : List ℕ) (w : Kinds) (loose after : Bool) (from b : ℕ) (r : Span) : Type 0 where
  pub begins : r.from ≡ from
  pub lies : Lies image index r
  pub onward : Region image index r.to b
  pub inside : r.end ≡ End.Child → r.to < b
  pub read : gaps w loose (not after) after (parts_from image index from b) ≡ spanned image index w loose b r

-- A survey may go on at the gap s, behind k children.
pub record Surveying (image index : List ℕ) (b : ℕ) (s : Span) (k : ℕ) : Type 0 where
  pub lies : Lies image index s
  pub onward : Region image index s.to b
  pub inside : s.end ≡ End.Child → s.to < b
  pub few : k ≤ s.to

-- what a survey tells of a reading that comes to x and has the last gap s: nothing but that gap, where a foreign element stops it
abbrev pub outline_of : Sums → Span → Outline
outline_of (foreign_at n) s = record { children = 0; many = false; blank = false; last = s }
outline_of (sums k m b ts) s = record { children = k; many = m; blank = b; last = s }

-- what a reading comes to, by its survey
unfoldable pub surveyed : List ℕ → List ℕ → Outline → Sums
surveyed image index r =
    cond (is_foreign r.last.end) (foreign_at r.last.to)
    (sums r.children r.many r.blank (gap_at image index r.last).waiting)

-- r is the survey of a reading that comes to x.
pub record Outlines (image index : List ℕ) (x : Sums) (r : Outline) : Type 0 where
  pub lies : Lies image index r.last
  pub ends : r.last.end ≡ end_of x
  pub told : r ≡ outline_of x r.last
  pub read : x ≡ surveyed image index r

-- r is the survey of the gaps from s on, behind k children of which one triggers many lines or none.
pub record SurveyedFrom (image index : List ℕ) (w : Kinds) (loose : Bool) (b : ℕ) (s : Span) (k : ℕ) (m : Bool) (r : Outline) : Type 0 where
  pub outlines : Outlines image index (gap_sums k m (spanned image index w loose b s)) r
  pub last : gap_at image index r.last ≡ last_gap (spanned image index w loose b s)

-- r is the survey of a reading from `from` up to b.
pub record Surveyed (image index : List ℕ) (w : Kinds) (loose : Bool) (from b : ℕ) (r : Outline) : Type 0 where
  pub outlines : Outlines image index (gap_sums 0 false (gaps w loose true false (parts_from image index from b))) r
  pub last : gap_at image index r.last ≡ last_gap (gaps w loose true false (parts_from image index from b))
