use Rattle.std.proofs.Common.{rules, tests, ◌≡◌}
use Rattle.std.specs.List.{prefix_len}
use Rattle.std.proofs.lemmas.Iterator.{YieldsList-from_slice}
use Rattle.text.proofs.Walking.{count_while, is_inside, line-from, line-past}
use Rattle.text.proofs.lines.line_end.Goals as goal

pub returns-in_default : goal.returns-in_default
returns-in_default c = line-past _ _ (search rules)

pub returns : goal.returns
returns c =
    let rest = c.in-Some.rest.now in
    let t = c.take_while.ensures in
    let e : c.count.result ≡ prefix_len is_inside rest =
    count_while _ is_inside _ _ c.count.ensures.ran (YieldsList-from_slice rest (cc)) t.closure t.done (λ x b q k. search (rules, tests))
    in
    rw e (line-from c.args.s.now rest c.args.at c.in-Some.ensures.lookup.0.2)
