-- The rules of the tables of rows: each arm of a table has what the definition says of its number, by computed tests.
use Rattle.std.specs.Prelude.{◌≡◌, ℕ, ◌+◌, ◌-◌, ◌%◌, ◌<◌, ◌≤◌, Bool, true, false, not, ◌&&◌, ◌||◌, eqb, ltb, leb, take, drop, Option, Some, None, IfSome}
use mathlib.Core.Path.{refl, sym, ◌∙◌}
use mathlib.Core.Bool.{false≢true}
use native.Mathlib.Omega.{arith}
use borrow.Author.Tests.{leb-true, ltb-true, not-true}
use Rattle.text.proofs.Lists.{and_true}
use Rattle.text.proofs.Below.{all_below, below}
use Rattle.tree.specs.Class.{kinds}
use Rattle.plan.specs.Words.{word_count}
use Rattle.printer.specs.declared.rows.Entry.{Entry}
use Rattle.printer.specs.declared.rows.Extent.{Extent}
use Rattle.printer.specs.Layout.{layout}
use Rattle.printer.specs.Rows.{want_count, piece_count, want_at, piece_at, piece_of, tested, settled, all_pieces, bits_at, option_at, entry_of, extent_of, Coded, RowOf, WantOf}

-- ---- wanted parts

-- three numbers are its kinds
pub want-kinds : {w n a b : ℕ} {d : Option ℕ} → WantOf w n → a ≡ bits_at n 0 → b ≡ bits_at n 8 → d ≡ option_at n 16 → record { lo = a; hi = b; but = d } ≡ kinds (want_at w).class
want-kinds h e f g = rw (e, f, g) h.class-kinds

-- ---- pieces

-- a wanted part, if any, is in the table
abbrev pub given_in : Option ℕ → Bool
given_in None = true
given_in (Some w) = ltb w want_count

given_below : (o : Option ℕ) → given_in o ≡ true → IfSome o (λ w. w < want_count)
given_below None h = tt
given_below (Some w) h = ltb-true w want_count h

-- its numbers are in the other tables
abbrev pub in_tables : Entry → Bool
in_tables x = (given_in x.given && (given_in x.other && given_in x.unless)) && (ltb x.want want_count && (ltb x.word word_count && settled x))

-- an entry of the table is the piece with its number
pub coded : (k : ℕ) {q : ℕ} {x : Entry} → q ≡ k → piece_of x ≡ piece_at k → x.tested ≡ tested (piece_of x) → in_tables x ≡ true → Coded q x
coded k {q} {x} e p t b =
    let (f, r) = and_true (given_in x.given && (given_in x.other && given_in x.unless)) (ltb x.want want_count && (ltb x.word word_count && settled x)) b in
    let (i, l) = and_true (given_in x.given) (given_in x.other && given_in x.unless) f in
    let (j, l) = and_true (given_in x.other) (given_in x.unless) l in
    let (m, r) = and_true (ltb x.want want_count) (ltb x.word word_count && settled x) r in
    let (v, g) = and_true (ltb x.word word_count) (settled x) r in
    rw e (record {
      piece = p;
      tests = t;
      given = given_below x.given i;
      other = given_below x.other j;
      unless = given_below x.unless l;
      want = ltb-true x.want want_count m;
      word = ltb-true x.word word_count v;
      settles = g;
    })

-- whether it goes by parts, and its six numbers, each by itself
pub coded_by : (n : ℕ) {q d e f : ℕ} {a b c : Option ℕ} {t : Bool} → Coded q (entry_of n) → t ≡ not (eqb (n % 16777216) 0) → a ≡ option_at n 0 → b ≡ option_at n 8 → c ≡ option_at n 16
    → d ≡ bits_at n 24 → e ≡ bits_at n 32 → f ≡ bits_at n 40 → Coded q (record { tested = t; given = a; other = b; unless = c; what = d; want = e; word = f })
coded_by n h t i j k l m o = rw (t, i, j, k, l, m, o) h

-- ---- rows

-- parts are marked where one of its pieces goes by them
abbrev pub marks_tested : Extent → Bool
marks_tested r = r.marks || all_below (r.end - r.start) (λ n. not (tested (piece_at (r.start + n))))

-- a row of the table has the pieces of its kind's row
pub rowed : (k : ℕ) {q : ℕ} {r : Extent} → q ≡ k → take (r.end - r.start) (drop r.start all_pieces) ≡ layout k → (leb r.end piece_count && marks_tested r) ≡ true → RowOf q r
rowed k {q} {r} e p b =
    let (u, v) = and_true (leb r.end piece_count) (marks_tested r) b in
    rw e (record { pieces_of = p; within = leb-true r.end piece_count u; marking = λ n h l t. go n h l t r.marks v })
  where
    go : (n : ℕ) → r.start ≤ n → n < r.end → tested (piece_at n) ≡ true → (m : Bool) → (m || all_below (r.end - r.start) (λ n. not (tested (piece_at (r.start + n))))) ≡ true → m ≡ true
    go n h l t true v = refl
    go n h l t false v =
        let s : r.start + (n - r.start) ≡ n = omega arith in
        let f : not (tested (piece_at (r.start + (n - r.start)))) ≡ true = below (r.end - r.start) (λ n. not (tested (piece_at (r.start + n)))) v (n - r.start) (omega arith) in
        absurd (false≢true (sym (not-true (tested (piece_at n)) (rw s at f)) ∙ t))

-- its numbers, each by itself
pub rowed_by : (n : ℕ) {q a b d : ℕ} → RowOf q (extent_of n) → a ≡ bits_at n 0 → b ≡ bits_at n 8 → d ≡ bits_at n 16 → RowOf q (record { start = a; end = b; marks = not (eqb d 0) })
rowed_by n h e f g = rw (e, f, g) h
