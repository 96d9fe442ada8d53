use Rattle.std.proofs.Common.{rules, sym, ◌∙◌}
use Rattle.text.proofs.Trimming.{first-goes, first-stays, nothing-started}
use Rattle.text.proofs.white.trim_start.Goals as goal

pub loop-first-preserved : goal.loop-first-preserved
loop-first-preserved c =
    let a = c.split_at.ensures in
    rw a.back (first-goes c.char_end.ensures (rw a.front at (sym c.is_white.ensures ∙ c.if-not-is_white.false)) ∙ c.loop-first.invariant)

pub returns-then-not-is_white : goal.returns-then-not-is_white
returns-then-not-is_white c = first-stays c.char_end.ensures (rw c.split_at.ensures.front at (sym c.is_white.ensures ∙ c.if-not-is_white.true)) ∙ c.loop-first.invariant

pub returns-after-loop-first : goal.returns-after-loop-first
returns-after-loop-first c = nothing-started _ (search rules) ∙ c.loop-first.invariant
