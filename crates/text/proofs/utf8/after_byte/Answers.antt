use Rattle.std.proofs.Common.{rules, ◌≡◌, true, false}
use Rattle.text.specs.Basic.{within}
use Rattle.text.proofs.Owing.{after_none, after_tail, after_wrong}
use Rattle.text.proofs.utf8.after_byte.Goals as goal

pub returns-then-t-eq0 : goal.returns-then-t-eq0
returns-then-t-eq0 c = search after_none

pub returns-then-not-contains : goal.returns-then-not-contains
returns-then-not-contains c =
    let w : within c.args.t.low c.args.t.high c.args.b ≡ false = search rules in
    after_wrong _ _ c.if-t-eq0.false w

pub returns : goal.returns
returns c =
    let w : within c.args.t.low c.args.t.high c.args.b ≡ true = search rules in
    after_tail _ _ _ c.if-t-eq0.false w c.any_tails.ensures
