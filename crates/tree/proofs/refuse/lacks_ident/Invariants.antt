use Prim.Native.Nat.{◌+◌}
use Rattle.tree.specs.Image.{level_in}
use Rattle.tree.proofs.Search.{Walking, no_ident_from}
use Rattle.tree.proofs.refuse.lacks_ident.Given as goal

abbrev pub invariant-loop-j : goal.invariant-loop-j
invariant-loop-j l = Walking l.image (no_ident_from l.image l.name) (no_ident_from l.image (level_in l.image l.i) (l.i + 1)) l.j
