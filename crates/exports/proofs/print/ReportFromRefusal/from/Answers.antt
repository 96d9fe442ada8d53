use mathlib.Core.Path.{refl}
use Rattle.exports.specs.Print.{number, values, values_listed}
use Rattle.exports.proofs.Answers.{by_number}
use Rattle.exports.proofs.print.ReportFromRefusal.from.Goals as goal

pub returns : goal.returns
unfolding number values values_listed
returns c = by_number _ _ c.args.f c.from.ensures (record { answered = refl; valued = refl; listed = refl })
