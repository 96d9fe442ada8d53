use Rattle.text.proofs.Owing.{validating_none, validating_wrong, validating_more, validating_on, validating_all}
use Rattle.text.proofs.utf8.is_utf8.Goals as goal

pub loop-b-init : goal.loop-b-init
loop-b-init c = validating_none _ (cc) c.behind_ascii-rest.ensures.same

pub returns-in_default-after_byte : goal.returns-in_default-after_byte
returns-in_default-after_byte c = validating_wrong c.loop-b.invariant c.in-Some.ensures.cases.0 _ c.after_byte.ensures c.in_default-after_byte.is

pub loop-b-preserved-then-owed-eq0 : goal.loop-b-preserved-then-owed-eq0
loop-b-preserved-then-owed-eq0 c =
    let v = validating_more c.loop-b.invariant c.in-Some.ensures.cases.0 _ c.after_byte.ensures _ c.in-Some-after_byte.is in
    validating_on v c.if-owed-eq0.true c.behind_ascii-rest-then-owed-eq0.ensures.same

pub loop-b-preserved : goal.loop-b-preserved
loop-b-preserved c = validating_more c.loop-b.invariant c.in-Some.ensures.cases.0 _ c.after_byte.ensures _ c.in-Some-after_byte.is

pub returns : goal.returns
returns c = validating_all c.loop-b.invariant c.in_default.ensures.cases
