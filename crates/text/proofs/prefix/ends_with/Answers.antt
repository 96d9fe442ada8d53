use Rattle.std.proofs.Common.{rules, ◌∙◌}
use Rattle.text.proofs.Walking.{ends-is}
use Rattle.text.proofs.prefix.ends_with.Goals as goal

pub returns : goal.returns
returns c = c.ends_with.ensures.value ∙ ends-is c.args.s.now c.args.t.now (λ h. search rules)
