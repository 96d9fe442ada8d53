use mathlib.Core.Path.{refl}
use native.Mathlib.Omega.{arith}
use Rattle.formatter.proofs.Responses.{responds-listed, responds-refused}
use Rattle.formatter.proofs.program.respond.Goals as goal

pub returns-in-Ok : goal.returns-in-Ok
returns-in-Ok c = responds-listed _ _ _ _ _ refl refl (omega arith) c.in-Ok.is c.list_items.ensures.value c.list_items.ensures.listing_after

pub returns-in-Err : goal.returns-in-Err
returns-in-Err c = responds-refused _ _ _ _ _ refl refl (omega arith) c.in-Err.is c.list_items.ensures.value c.list_items.ensures.listing_after c.from.ensures (omega arith) (omega arith) c.write_refused.ensures
