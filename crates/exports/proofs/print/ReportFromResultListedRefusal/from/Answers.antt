use mathlib.Core.Path.{refl}
use Rattle.exports.specs.Print.{number, values, values_listed}
use Rattle.exports.proofs.Answers.{by_list_case}
use Rattle.exports.proofs.print.ReportFromResultListedRefusal.from.Goals as goal

pub returns-in-Ok : goal.returns-in-Ok
unfolding number values values_listed
returns-in-Ok c = by_list_case _ _ _ c.in-Ok.is (record { answered = refl; valued = refl; listed = refl })
