use Rattle.std.proofs.Common.{rules, tests}
use Rattle.std.proofs.lemmas.Iterator.Adapters.{YieldsList-from_rev_slice}
use Rattle.text.proofs.Chars.{is_tail}
use Rattle.text.proofs.Trimming.{last_char}
use Rattle.text.proofs.Walking.{count_while}
use Rattle.text.proofs.white.char_start.Goals as goal

pub returns : goal.returns
returns c =
    let s = c.args.s.now in
    let t = c.take_while.ensures in
    last_char s c.count-tails.result c.saturating_sub.result
    (count_while _ is_tail _ _ c.count-tails.ensures.ran (YieldsList-from_rev_slice s (cc)) t.closure t.done (λ x b q k. search (rules, tests)))
    c.requires c.saturating_sub.ensures
