use Rattle.items.proofs.Emits.{signal-shown}
use Rattle.items.proofs.Output.print_signal.Goals as goal

pub returns : goal.returns
returns c = signal-shown c.args.s c.emit.ensures c.signal_kind.ensures c.plain.ensures
