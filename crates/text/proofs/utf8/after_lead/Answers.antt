use Rattle.std.proofs.Common.{arith, ◌≡◌, ◌∙◌}
use Rattle.text.proofs.Owing.{settled, led-ascii, led_wrong, led-tails}
use Rattle.text.proofs.utf8.after_lead.Goals as goal

pub returns-then-b-lt-TAIL_LOW : goal.returns-then-b-lt-TAIL_LOW
returns-then-b-lt-TAIL_LOW c = settled _ (cc) ∙ led-ascii _ c.if-b-lt-TAIL_LOW.true

pub returns-in_err-checked_sub : goal.returns-in_err-checked_sub
returns-in_err-checked_sub c =
    let z : c.lead_length.result ≡ 0 = omega (arith, c.in_err-checked_sub.ensures) in
    rw c.from_residual.ensures (led_wrong _ _ (omega arith) c.lead_length.ensures z)

pub returns : goal.returns
returns c = led-tails _ _ (omega arith) (omega (arith, c.in_ok-checked_sub.ensures, c.lead_length.ensures)) c.lowest_tail.ensures c.highest_tail.ensures
