use Rattle.printer.proofs.Looking.{ends-has}
use Rattle.printer.proofs.node.Node.between.Goals as goal

pub bounds_between-requires : goal.bounds_between-requires
bounds_between-requires c = ends-has c.args.self.at c.start.ensures c.end.ensures c.requires.starts c.requires.ends
