use mathlib.Core.Bool.{false}
use mathlib.Core.Path.{refl, ap}
use Rattle.tree.specs.Source.{Source}
use Rattle.formatter.proofs.Calls.{plan-fits, marks-fit, prints-ample, lacking, tells, prints, lists, lent-still}
use Rattle.formatter.proofs.serve.serve_planned.Goals as goal

pub write_ops-p-requires-clause-fits : goal.write_ops-p-requires-clause-fits
write_ops-p-requires-clause-fits c = plan-fits c.requires false

pub counts_with-requires : goal.counts_with-requires
counts_with-requires c = marks-fit c.requires

pub returns-then-listed-is_ample : goal.returns-then-listed-is_ample
returns-then-listed-is_ample c = lent-still refl refl refl (prints-ample _ _ c.write_ops-p.result c.requires (rw (ap Source.image c.tree.view_is) at c.is_ample.ensures) c.if-listed-is_ample.true c.write_ops-p.ensures c.counts_with.ensures _)

pub count_ops-p-requires-clause-fits : goal.count_ops-p-requires-clause-fits
count_ops-p-requires-clause-fits c = plan-fits c.requires c.args.wanted.listed

pub counts_with-counts-requires : goal.counts_with-counts-requires
counts_with-counts-requires c = marks-fit c.requires

pub returns-in_err-fit : goal.returns-in_err-fit
returns-in_err-fit c = lent-still refl refl refl (lacking _ _ _ c.args.wanted.listed c.count_ops-p.result c.requires c.count_ops-p.ensures c.counts_with-counts.ensures c.listing_length-bytes.ensures c.fit.ensures c.in_err-fit.was _ c.from_residual.ensures.1)

pub write_ops-requires-clause-fits : goal.write_ops-requires-clause-fits
write_ops-requires-clause-fits c = plan-fits c.requires false

pub write_listing-requires : goal.write_listing-requires
write_listing-requires c = tells _ _ c.args.buffers.now.listing.now c.args.wanted.listed c.count_ops-p.result c.requires c.count_ops-p.ensures c.counts_with-counts.ensures c.listing_length-bytes.ensures c.fit.ensures c.in_ok-fit.was c.write_ops.ensures

pub returns-then-listed : goal.returns-then-listed
returns-then-listed c = lent-still refl refl refl (lists _ _ _ c.args.wanted.listed c.count_ops-p.result c.requires c.count_ops-p.ensures c.counts_with-counts.ensures c.listing_length-bytes.ensures c.fit.ensures c.in_ok-fit.was c.write_ops.ensures c.if-listed.true c.write_listing.ensures)

pub returns-else-listed : goal.returns-else-listed
returns-else-listed c = lent-still refl refl refl (prints _ _ _ c.args.wanted.listed c.count_ops-p.result c.requires c.count_ops-p.ensures c.counts_with-counts.ensures c.listing_length-bytes.ensures c.fit.ensures c.in_ok-fit.was c.write_ops.ensures c.if-listed.false)
