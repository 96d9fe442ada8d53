use mathlib.Core.List.{flatten}
use mathlib.Core.Path.{refl}
use Rattle.items.specs.Lines.{kind_names}
use Rattle.items.specs.Names.{other_names, names_of}
use Rattle.items.proofs.names.joined.Goals as goal

pub returns-in-Kinds : goal.returns-in-Kinds
unfolding names_of kind_names flatten
returns-in-Kinds c = rw c.in-Kinds.is refl

pub returns-in-Others : goal.returns-in-Others
unfolding names_of other_names flatten
returns-in-Others c = rw c.in-Others.is refl
