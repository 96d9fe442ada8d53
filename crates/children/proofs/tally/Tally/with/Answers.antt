use Rattle.std.proofs.Common.{◌≡◌, cond, ◌+◌}
use Rattle.children.proofs.Growing.{counted_is, counted_none}
use Rattle.children.proofs.tally.Tally.with.Goals as goal
use Rattle.children.proofs.tally.Tally.with.Goals.{then-follows, else-follows, then-is_single_line, else-is_single_line, then-self, else-self, then-follows-2, else-follows-2}

pub returns-then-error-trivia : goal.returns-then-error-trivia
returns-then-error-trivia c = search counted_none

pub returns : goal.returns
returns c =
    let a = c.args in
    let p : c.if-follows.feeds ≡ cond a.follows 0 a.f = elim c.if-follows.branch [ then-follows w ↦ rw (w.if-follows.true, w.feeds-is) | else-follows w ↦ rw (w.if-follows.false, w.feeds-is) ] in
    let i : c.if-is_single_line.inline ≡ cond c.is_single_line.result 1 (a.f + a.self.back) =
    elim c.if-is_single_line.branch [ then-is_single_line w ↦ rw (w.if-is_single_line.true, w.inline-is) | else-is_single_line w ↦ rw (w.if-is_single_line.false, w.inline-is) ] in
    let n : c.if-self.result ≡ cond a.self.ended 0 (c.if-follows.feeds + c.from.result) = elim c.if-self.branch [ then-self w ↦ rw (w.if-self.true, w.result-is) | else-self w ↦ rw (w.if-self.false, w.result-is) ] in
    let o : c.if-follows-2.result ≡ cond a.follows c.if-is_single_line.inline a.self.back = elim c.if-follows-2.branch [ then-follows-2 w ↦ rw (w.if-follows-2.true, w.result-is) | else-follows-2 w ↦ rw (w.if-follows-2.false, w.result-is) ] in
    counted_is a.self a.follows a.k a.f c.is_error-error.ensures c.is_trivia-trivia.ensures c.is_single_line.ensures p c.from.ensures i n o
