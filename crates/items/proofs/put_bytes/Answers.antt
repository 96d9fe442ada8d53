use Rattle.items.proofs.Stores.{storing_none, storing_more, storing_all}
use Rattle.items.proofs.put_bytes.Goals as goal

pub loop-i-init : goal.loop-i-init
loop-i-init c = search storing_none

pub loop-i-preserved : goal.loop-i-preserved
loop-i-preserved c = search storing_more

pub returns : goal.returns
returns c = search storing_all
