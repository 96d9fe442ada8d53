use native.Mathlib.Omega.{arith}
use Rattle.children.proofs.Turns.{space-none}
use Rattle.children.proofs.Spanning.{spanning_none, spanning-fits, spanning-more, spanning-stop, spanning_all}
use Rattle.std.specs.Prelude.{◌≡◌, cond}
use Rattle.children.proofs.gap.gap.Goals as goal
use Rattle.children.proofs.gap.gap.Goals.{then-follows, else-follows}

pub loop-j-init : goal.loop-j-init
loop-j-init c = search spanning_none

pub returns-in-Break : goal.returns-in-Break
returns-in-Break c = search spanning-stop

pub with-tally-requires-clause-fits : goal.with-tally-requires-clause-fits
with-tally-requires-clause-fits c = omega (arith, spanning-fits c.loop-j.invariant c.loop-j-test.true _ c.space_of-f.ensures, c.well_formed)

pub with-tally-requires-clause-space : goal.with-tally-requires-clause-space
with-tally-requires-clause-space c = space-none _ _ _ _ _ c.space_of-f.ensures c.kind_at.ensures

pub loop-j-preserved : goal.loop-j-preserved
loop-j-preserved c =
    let a = c.loop-j in
    let p : c.if-follows.cut ≡ cond c.follows-follows.result c.end_at-next.result a.cut = elim c.if-follows.branch [ then-follows w ↦ rw (w.if-follows.true, w.cut-is) | else-follows w ↦ rw (w.if-follows.false, w.cut-is) ] in
    search (spanning-more, p)

pub returns : goal.returns
returns c = search spanning_all
