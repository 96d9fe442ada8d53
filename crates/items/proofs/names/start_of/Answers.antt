use mathlib.Core.Path.{◌∙◌}
use mathlib.Core.List.{flatten}
use Rattle.items.specs.Lines.{kind_names}
use Rattle.items.specs.Names.{other_names}
use Rattle.items.proofs.Naming.{kinds-in, kinds-start, others-in, others-start}
use Rattle.items.proofs.names.start_of.Goals as goal

pub bounds-at : goal.bounds-at
unfolding kind_names flatten
bounds-at c = kinds-in c.in-Kinds.is _ c.requires

pub bounds-at-in-Others : goal.bounds-at-in-Others
unfolding other_names flatten
bounds-at-in-Others c = others-in c.in-Others.is _ c.requires

pub returns-in-Kinds : goal.returns-in-Kinds
unfolding kind_names flatten
returns-in-Kinds c = c.from.ensures ∙ kinds-start c.in-Kinds.is _ c.requires

pub returns-in-Others : goal.returns-in-Others
unfolding other_names flatten
returns-in-Others c = c.from-in-Others.ensures ∙ others-start c.in-Others.is _ c.requires
