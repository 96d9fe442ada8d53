use Rattle.std.proofs.Common.{rules, arith, ◌≡◌, ◌+◌, ◌*◌}
use Rattle.text.proofs.WhiteSpace.{pair_white}
use Rattle.text.proofs.white.is_white_pair.Goals as goal

pub returns : goal.returns
returns c =
    let e : c.from_be_bytes-k.result ≡ c.args.a * 0x100 + c.args.b = search rules in
    rw e (pair_white _ _ (omega arith) (omega arith))
