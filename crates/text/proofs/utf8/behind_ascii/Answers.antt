use Rattle.std.proofs.Common.{rules, tests, ◌≡◌}
use Rattle.std.specs.List.{prefix_len}
use Rattle.std.proofs.lemmas.List.{take_rest}
use Rattle.std.proofs.lemmas.Iterator.{YieldsList-from_slice}
use Rattle.text.proofs.Owing.{is_ascii, behind-ascii}
use Rattle.text.proofs.Walking.{count_while}
use Rattle.text.proofs.utf8.behind_ascii.Goals as goal

pub returns-clause-same : goal.returns-clause-same
returns-clause-same c =
    let s = c.args.s.now in
    let t = c.take_while.ensures in
    let e : c.count.result ≡ prefix_len is_ascii s =
    count_while _ is_ascii _ _ c.count.ensures.ran (YieldsList-from_slice s (cc)) t.closure t.done (λ x b q k. search (rules, tests))
    in
    rw (e, take_rest s (prefix_len is_ascii s)) (behind-ascii s)
