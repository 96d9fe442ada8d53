use Rattle.std.proofs.Common.{rules, arith, ◌≡◌, ◌+◌, ◌*◌, ◌&&◌, leb}
use Rattle.text.proofs.WhiteSpace.{triple_white}
use Rattle.text.proofs.white.is_white_triple.Goals as goal

pub returns : goal.returns
returns c =
    let k = c.from_be_bytes-k.result in
    let d : k ≡ c.args.a * 0x10000 + c.args.b * 0x100 + c.args.c = search rules in
    let e : c.contains.result ≡ (leb 0xe28080 k && leb k 0xe2808a) = search rules in
    rw (e, d) (triple_white _ _ _ (omega arith) (omega arith) (omega arith))
