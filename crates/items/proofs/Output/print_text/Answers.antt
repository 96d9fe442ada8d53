use mathlib.Core.Path.{◌∙◌, sym}
use Rattle.items.proofs.Laws.{passed}
use Rattle.items.proofs.Emits.{text-long, text-full, text-shown}
use borrow.Author.Rules.{rules}
use Rattle.items.proofs.Output.print_text.Goals as goal

pub returns-in_default : goal.returns-in_default
returns-in_default c = passed _ c.in_default.is

pub returns-then-is_some : goal.returns-then-is_some
returns-then-is_some c = text-shown _ c.emit.ensures c.text_entry.ensures c.in-Some.is (sym c.is_some.ensures ∙ c.if-is_some.true) c.put_bytes.ensures (search rules)

pub returns-else-is_some : goal.returns-else-is_some
returns-else-is_some c = text-full _ c.emit.ensures c.text_entry.ensures c.in-Some.is (sym c.is_some.ensures ∙ c.if-is_some.false)

pub returns-then-s-ge-LIMIT : goal.returns-then-s-ge-LIMIT
returns-then-s-ge-LIMIT c = text-long _ c.in-Some.is c.if-s-ge-LIMIT.true
