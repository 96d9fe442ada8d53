use Rattle.std.proofs.Common.{sym, ◌∙◌}
use Rattle.text.proofs.Trimming.{ascii_last, last-goes, last-stays, nothing-trimmed}
use Rattle.text.proofs.white.trim_end.Goals as goal

pub loop-b-preserved-then-b-lt-TAIL_LOW : goal.loop-b-preserved-then-b-lt-TAIL_LOW
loop-b-preserved-then-b-lt-TAIL_LOW c =
    let e = ascii_last _ _ _ c.in-Some.ensures.cases.0 c.if-b-lt-TAIL_LOW.true in
    last-goes _ _ _ e (sym c.is_white_byte.ensures ∙ c.if-not-is_white_byte.false) ∙ c.loop-b.invariant

pub returns-then-not-is_white_byte : goal.returns-then-not-is_white_byte
returns-then-not-is_white_byte c =
    let e = ascii_last _ _ _ c.in-Some.ensures.cases.0 c.if-b-lt-TAIL_LOW.true in
    last-stays _ _ _ e (sym c.is_white_byte.ensures ∙ c.if-not-is_white_byte.true) ∙ c.loop-b.invariant

pub loop-b-preserved : goal.loop-b-preserved
loop-b-preserved c =
    let e = rw (← c.split_at.ensures.front, ← c.split_at.ensures.back) at c.char_start.ensures.last in
    last-goes _ _ _ e (sym c.is_white.ensures ∙ c.if-not-is_white.false) ∙ c.loop-b.invariant

pub returns-then-not-is_white : goal.returns-then-not-is_white
returns-then-not-is_white c =
    let e = rw (← c.split_at.ensures.front, ← c.split_at.ensures.back) at c.char_start.ensures.last in
    last-stays _ _ _ e (sym c.is_white.ensures ∙ c.if-not-is_white.true) ∙ c.loop-b.invariant

pub returns-in_default : goal.returns-in_default
returns-in_default c = nothing-trimmed _ c.in_default.ensures.cases ∙ c.loop-b.invariant
