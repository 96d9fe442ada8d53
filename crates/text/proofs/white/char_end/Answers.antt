use Rattle.std.proofs.Common.{rules, tests, take, drop, length, ◌≡◌, ◌-◌}
use Rattle.std.specs.List.{prefix_len}
use Rattle.std.proofs.lemmas.List.{take_rest}
use Rattle.std.proofs.lemmas.Iterator.{YieldsList-from_slice}
use Rattle.text.proofs.Chars.{is_tail}
use Rattle.text.proofs.Trimming.{first_char}
use Rattle.text.proofs.Walking.{count_while}
use Rattle.text.proofs.white.char_end.Goals as goal

pub returns : goal.returns
returns c =
    let s = c.args.s.now in
    let rest = take (length s - 1) (drop 1 s) in
    let t = c.take_while.ensures in
    let e : c.count.result ≡ prefix_len is_tail rest =
    count_while _ is_tail _ _ c.count.ensures.ran (YieldsList-from_slice rest (cc)) t.closure t.done (λ x b q k. search (rules, tests))
    in
    first_char s c.count.result c.requires (rw (take_rest s 1) at e)
