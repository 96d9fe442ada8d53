use mathlib.Core.Path.{refl}
use native.Mathlib.Omega.{arith}
use Rattle.items.proofs.Decimals.{one-digit, last-digit}
use Rattle.listing.proofs.Writes.{one_byte, writes_both, room-first, room-behind, room_as}
use Rattle.listing.proofs.+put_digits.Goals as goal

pub overflow_add-result : goal.overflow_add-result
overflow_add-result t c = omega (arith, (room_as (one-digit _ _ c.if-n-lt10.true c.digit.ensures) c.requires).fits)

pub returns-then-n-lt10 : goal.returns-then-n-lt10
returns-then-n-lt10 t c = rw (one-digit _ _ c.if-n-lt10.true c.digit.ensures) (one_byte c.put_byte.ensures)

pub put_digits-next-requires : goal.put_digits-next-requires
put_digits-next-requires t c = (omega (arith, c.decreases, c.if-n-lt10.false), room-first _ (room_as (last-digit _ _ c.if-n-lt10.false refl) c.requires))

pub overflow_add-result-2 : goal.overflow_add-result-2
overflow_add-result-2 t c = omega (arith, (room-behind (room_as (last-digit _ _ c.if-n-lt10.false c.digit-2.ensures) c.requires) c.put_digits-next.ensures).fits)

pub returns : goal.returns
returns t c = rw (last-digit _ _ c.if-n-lt10.false c.digit-2.ensures) (writes_both c.put_digits-next.ensures (one_byte c.put_byte-2.ensures))
