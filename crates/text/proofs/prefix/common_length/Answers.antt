use Rattle.std.proofs.Common.{rules, tests, ◌∙◌}
use Rattle.std.proofs.lemmas.Iterator.{YieldsList-from_slice, YieldsList-from_zip}
use Rattle.text.proofs.Walking.{count_while, common, common-length}
use Rattle.text.proofs.prefix.common_length.Goals as goal

pub returns : goal.returns
returns c =
    let a = c.args.a.now in
    let b = c.args.b.now in
    let t = c.take_while.ensures in
    count_while _ common _ _ c.count.ensures.ran (YieldsList-from_zip (YieldsList-from_slice a (cc)) (YieldsList-from_slice b (cc))) t.closure t.done (λ x b q k. search (rules, tests))
    ∙ common-length a b
