use borrow.Author.Rules.{rules}
use Rattle.items.proofs.Emits.{emits-none, emits-full, emits-more}
use Rattle.items.proofs.Numbers.{has-room}
use Rattle.items.proofs.Output.emit.Goals as goal

pub returns-in_default : goal.returns-in_default
returns-in_default c = emits-none _ c.in_default.is

pub returns-in_default-fitting : goal.returns-in_default-fitting
returns-in_default-fitting c = emits-full c.fitting.ensures c.in-Some.is c.in_default-fitting.is

pub put_entry-requires : goal.put_entry-requires
put_entry-requires c = has-room _ _ _ c.fitting.ensures _ c.in-Some-fitting.is

pub returns : goal.returns
returns c = emits-more c.fitting.ensures c.in-Some.is c.in-Some-fitting.is c.put_entry.ensures.value c.put_entry.ensures.records_after (search rules)
