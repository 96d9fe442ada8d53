use borrow.Author.Rules.{rules}
use mathlib.Core.Path.{◌∙◌, ap, refl, sym}
use native.Mathlib.Omega.{arith}
use Rattle.plan.proofs.Laws.{by, ◌▸◌, idle}
use Rattle.printer.proofs.Walking.{survey-outlined, survey-foreign, outlined-whole, outlined-count, after-outlined, after-foreign, spans_as, walks-region, walks_less, walking-more, walking-all_lem, unasked-lies, unasked-around, walking-first, stating-all, statements-over, statements-foreign, valuing-none, valuing-more, valuing-all, values-over, values-foreign}
use Rattle.printer.proofs.Listing.{args-foreign, local-foreign, specs-foreign, around_is, comp-foreign, list-foreign}
use Rattle.tree.proofs.Options.{lacking}
use Rattle.tree.proofs.Yielding.{left-step, left-over}
use Rattle.printer.proofs.Printed.{enclosed-reading, left_paren, right_paren, plans-args, plans-binds, left_brace, right_brace, spec_reading, plans-comp, comp-lacks, member_reading, plans-expr, list-reading, plans-empty, plans-list}
use Rattle.printer.proofs.Readings.{within, walks-first, items-walk, walks-kid}
use Rattle.printer.specs.Print.{element}
use Rattle.items.specs.declared.Condition.TheVariants.{Always}
use Rattle.printer.proofs.Rowing.{kid_falls, eaching-none, eaching-kid, eaching-more, eaching-all, class-tested, each-other, each-one, found_kid, number-found, number-none, piece-unasked, piece-asked_lem, piece-text, piece-signal, piece-each, piece-part, piece-plus, rowing_more, rowing-all}
use Rattle.printer.proofs.Under.{at-region, kid_at, kid-print}
use Rattle.printer.proofs.Looking.{first-has, bounded_as, none_has, want-has, plus-part}
use Rattle.plan.specs.Words.{words}
use Rattle.children.proofs.Uses.{child_is}
use Rattle.printer.specs.Walked.{stated}
use Rattle.printer.proofs.Single.{lone-kid, lone_is, spec-kid, specs-none, specs-some, specs-walks}
use Rattle.printer.proofs.Nodes.{element-fits, node-token, node-own, node_row}
use borrow.Author.Tests.{not-true, not-false}
use Rattle.tree.specs.Answer.{found}
use Rattle.printer.specs.Reads.{number_or}
use mathlib.Core.Bool.{not}
use Rattle.printer.proofs.printers.+printers.Goals as goal

-- ---- args

pub args-returns-then-is_stopped : goal.args-returns-then-is_stopped
args-returns-then-is_stopped t c = by (args-foreign _ (enclosed-reading _ _ _ _ c.enclosed-z.ensures ∙ survey-foreign _ c.kinds_of.ensures c.survey-o.ensures c.is_stopped.ensures c.if-is_stopped.true)) (c.stop_at.ensures.plans _)

pub args-items-requires : goal.args-items-requires
args-items-requires t c = (omega (arith, c.decreases), (within c.args.n.at c.enclosed-z.ensures, outlined-whole (survey-outlined _ c.kinds_of.ensures c.survey-o.ensures c.is_stopped.ensures c.if-is_stopped.false)))

pub args-returns : goal.args-returns
args-returns t c = plans-args _ (enclosed-reading _ _ _ _ c.enclosed-z.ensures) c.test_of-t.result (survey-outlined _ c.kinds_of.ensures c.survey-o.ensures c.is_stopped.ensures c.if-is_stopped.false) c.next_run-k.ensures c.test_of-t.ensures left_paren right_paren (c.open_list.ensures _) c.items.ensures c.close_arguments.ensures

-- ---- binds

pub binds-returns-then-is_stopped : goal.binds-returns-then-is_stopped
binds-returns-then-is_stopped t c = by (local-foreign _ (enclosed-reading _ _ _ _ c.enclosed-z.ensures ∙ survey-foreign _ c.kinds_of.ensures c.survey-o.ensures c.is_stopped.ensures c.if-is_stopped.true)) (c.stop_at.ensures.plans _)

pub binds-lone-requires : goal.binds-lone-requires
binds-lone-requires t c =
    let x = (survey-outlined _ c.kinds_of.ensures c.survey-o.ensures c.is_stopped.ensures c.if-is_stopped.false) in
    (omega (arith, c.decreases), (within c.args.n.at c.enclosed-z.ensures, (outlined-whole x, outlined-count _ x c.if-o-eq1.true)))

pub binds-items-requires : goal.binds-items-requires
binds-items-requires t c = (omega (arith, c.decreases), (within c.args.n.at c.enclosed-z.ensures, outlined-whole (survey-outlined _ c.kinds_of.ensures c.survey-o.ensures c.is_stopped.ensures c.if-is_stopped.false)))

pub binds-returns : goal.binds-returns
binds-returns t c = plans-binds _ (enclosed-reading _ _ _ _ c.enclosed-z.ensures) Always (survey-outlined _ c.kinds_of.ensures c.survey-o.ensures c.is_stopped.ensures c.if-is_stopped.false) c.if-o-eq1.false (c.open_binds.ensures _) c.items.ensures c.close_binds.ensures

-- ---- body

pub body-returns-then-is_stopped : goal.body-returns-then-is_stopped
body-returns-then-is_stopped t c = by (specs-foreign _ _ c.requires.outlined _ (spec_reading _ c.requires.outlined c.spec_bounds-z.ensures) (after-foreign _ c.kinds_of-w.ensures c.survey_after-o.ensures c.is_stopped.ensures c.if-is_stopped.true)) (c.stop_at.ensures.plans _)

pub body-specs-requires : goal.body-specs-requires
body-specs-requires t c = (omega (arith, c.decreases), (within c.requires.within.at c.spec_bounds-z.ensures, (c.requires.lies, outlined-whole (after-outlined _ c.kinds_of-w.ensures c.survey_after-o.ensures c.is_stopped.ensures c.if-is_stopped.false))))

pub body-returns : goal.body-returns
body-returns t c =
    plans-comp _ _ c.test_of-t.result c.requires.outlined (spec_reading _ c.requires.outlined c.spec_bounds-z.ensures) (after-outlined _ c.kinds_of-w.ensures c.survey_after-o.ensures c.is_stopped.ensures c.if-is_stopped.false) c.next_run-k.ensures c.test_of-t.ensures left_brace right_brace
    (c.open_list.ensures _) (c.plan_signal.ensures _) c.items.ensures (c.newline_if.ensures _) c.specs.ensures c.close_list.ensures

-- ---- child

pub child-invariant_of-node : goal.child-invariant_of-node
child-invariant_of-node t c = record { at = kid_at c.requires.kid }

pub child-node-requires : goal.child-node-requires
child-node-requires t c = (kid_falls c.requires.kid c.decreases, tt {0})

pub child-returns : goal.child-returns
child-returns t c = by (around_is _ _ _ _ _ _ _) (c.plan_above.ensures ▸ by (kid-print c.requires.kid) c.node.ensures ▸ c.plan_behind.ensures)

-- ---- comp

pub comp-returns-then-is_none : goal.comp-returns-then-is_none
comp-returns-then-is_none t c = by (comp-lacks _ _ _ _ c.first_of-spec.ensures (lacking _ c.is_none.ensures) c.if-is_none.true) (c.stop_at.ensures.plans _)

pub comp-between-y-requires : goal.comp-between-y-requires
comp-between-y-requires t c = record { starts = first-has _ _ c.first_of-brace.ensures; ends = first-has _ _ c.first_of-spec.ensures }

pub comp-returns-then-is_stopped : goal.comp-returns-then-is_stopped
comp-returns-then-is_stopped t c =
    let d = bounded_as c.first_of-brace.ensures c.first_of-spec.ensures c.between-y.ensures in
    by (member_reading _ _ _ c.first_of-spec.ensures (lacking _ c.is_none.ensures) c.if-is_none.false d ∙ comp-foreign _ _ (survey-foreign _ c.kinds_of.ensures c.survey-m.ensures c.is_stopped.ensures c.if-is_stopped.true)) (c.stop_at-then-is_stopped.ensures.plans _)

pub comp-body-requires : goal.comp-body-requires
comp-body-requires t c =
    let d = bounded_as c.first_of-brace.ensures c.first_of-spec.ensures c.between-y.ensures in
    (omega (arith, c.decreases), (within c.args.n.at d, (c.survey-m.ensures.outlines.lies, survey-outlined _ c.kinds_of.ensures c.survey-m.ensures c.is_stopped.ensures c.if-is_stopped.false)))

pub comp-returns : goal.comp-returns
comp-returns t c =
    let d = bounded_as c.first_of-brace.ensures c.first_of-spec.ensures c.between-y.ensures in
    by (member_reading _ _ _ c.first_of-spec.ensures (lacking _ c.is_none.ensures) c.if-is_none.false d) c.body.ensures

-- ---- each

pub each-siblings-j-items-requires : goal.each-siblings-j-items-requires
each-siblings-j-items-requires t c = at-region c.args.n.at c.start-a.ensures c.end-b.ensures

pub each-loop-j-init : goal.each-loop-j-init
each-loop-j-init t c = rw c.into_iter-j-iterator.ensures.into_iter_gives (rw c.siblings-j-items.ensures.starts (eaching-none _ _ _ c.args.n.at c.start-a.ensures), c.siblings-j-items.ensures.left)

pub each-one-requires : goal.each-one-requires
each-one-requires t c =
    let (K, L) = c.loop-j.invariant in
    let (m, f, g, n) = left-step L refl c.next.new.self _ c.in-Some.ensures.steps in
    (omega (arith, c.decreases), (rw f (eaching-kid K c.end-b.ensures m), (c.requires.want, c.requires.word)))

pub each-loop-j-preserved : goal.each-loop-j-preserved
each-loop-j-preserved t c =
    let (K, L) = c.loop-j.invariant in
    let (m, f, g, n) = left-step L refl c.next.new.self _ c.in-Some.ensures.steps in
    (eaching-more K c.end-b.ensures m g (rw f at c.one.ensures), n)

pub each-returns : goal.each-returns
each-returns t c = let (K, L) = c.loop-j.invariant in eaching-all K c.end-b.ensures (left-over L refl c.next.new.self c.in-None.ensures.steps)

-- ---- expr

pub expr-between-y-requires : goal.expr-between-y-requires
expr-between-y-requires t c = record { starts = none_has _ refl; ends = first-has _ _ c.first_of-base.ensures }

pub expr-between-z-requires : goal.expr-between-z-requires
expr-between-z-requires t c = record { starts = first-has _ _ c.first_of-base.ensures; ends = none_has _ refl }

pub expr-part-requires : goal.expr-part-requires
expr-part-requires t c = (omega (arith, c.decreases), ((first-has _ _ c.first_of-base.ensures, omega arith)))

pub expr-returns : goal.expr-returns
expr-returns t c = plans-expr _ _ _ c.first_of-base.ensures c.between-y.ensures c.between-z.ensures c.stmts.ensures c.part.ensures c.values.ensures

-- ---- items

pub items-kids-requires : goal.items-kids-requires
items-kids-requires t c = (omega (arith, c.decreases), walks-first _ c.requires.within (spans_as c.kinds_of-w.ensures c.gap-s.ensures))

pub items-returns : goal.items-returns
items-returns t c = by (items-walk _ _ _ _ (spans_as c.kinds_of-w.ensures c.gap-s.ensures) c.requires.whole) c.kids.ensures

-- ---- kids

pub kids-gap-g-requires : goal.kids-gap-g-requires
kids-gap-g-requires t c = search walks-region

pub kids-child-requires : goal.kids-child-requires
kids-child-requires t c = (search rules, (search (walks-kid, child_is), (search rules, search rules)))

pub kids-loop-z-smaller : goal.kids-loop-z-smaller
kids-loop-z-smaller t c = search walks_less

pub kids-loop-z-preserved : goal.kids-loop-z-preserved
kids-loop-z-preserved t c = search walking-more

pub kids-returns : goal.kids-returns
kids-returns t c = search walking-all_lem

-- ---- list

pub list-returns-then-is_stopped : goal.list-returns-then-is_stopped
list-returns-then-is_stopped t c =
    let r = list-reading _ c.args.l c.opener.ensures c.closer.ensures c.child_class-c.ensures c.enclosed-z.ensures in
    by (list-foreign _ _ _ _ (r ∙ survey-foreign _ c.kinds_of.ensures c.survey-o.ensures c.is_stopped.ensures c.if-is_stopped.true)) (c.stop_at.ensures.plans _)

pub list-returns-then-is_empty : goal.list-returns-then-is_empty
list-returns-then-is_empty t c =
    let r = list-reading _ c.args.l c.opener.ensures c.closer.ensures c.child_class-c.ensures c.enclosed-z.ensures in
    plans-empty _ _ _ _ r (survey-outlined _ c.kinds_of.ensures c.survey-o.ensures c.is_stopped.ensures c.if-is_stopped.false) c.is_empty.ensures c.if-is_empty.true c.empty_word.ensures (c.plan_word.ensures _)

pub list-items-requires : goal.list-items-requires
list-items-requires t c = (omega (arith, c.decreases), (within c.args.n.at c.enclosed-z.ensures, outlined-whole (survey-outlined _ c.kinds_of.ensures c.survey-o.ensures c.is_stopped.ensures c.if-is_stopped.false)))

pub list-returns : goal.list-returns
list-returns t c =
    let r = list-reading _ c.args.l c.opener.ensures c.closer.ensures c.child_class-c.ensures c.enclosed-z.ensures in
    plans-list _ _ _ _ r c.test_of-t.result (survey-outlined _ c.kinds_of.ensures c.survey-o.ensures c.is_stopped.ensures c.if-is_stopped.false) c.is_empty.ensures c.if-is_empty.false c.next_run-k.ensures c.test_of-t.ensures c.open_word.ensures c.close_word.ensures
    (c.open_list.ensures _) (c.plan_signal.ensures _) c.items.ensures c.close_list.ensures

-- ---- local

pub local-returns : goal.local-returns
unfolding words
local-returns t c = c.binds.ensures ▸ c.plan_word.ensures _ ▸ c.plan_signal.ensures _

-- ---- lone

pub lone-invariant_of-node : goal.lone-invariant_of-node
lone-invariant_of-node t c = record { at = kid_at (lone-kid c.kinds_of-w.ensures c.gap-s.ensures c.requires.whole c.requires.one c.requires.within) }

pub lone-node-requires : goal.lone-node-requires
lone-node-requires t c = (kid_falls (lone-kid c.kinds_of-w.ensures c.gap-s.ensures c.requires.whole c.requires.one c.requires.within) c.decreases, tt {0})

pub lone-returns : goal.lone-returns
unfolding words
lone-returns t c =
    by (lone_is c.kinds_of-w.ensures c.gap-s.ensures c.requires.whole c.requires.one _) (c.plan_waiting.ensures ▸ c.plan_word.ensures _ ▸ by (kid-print (lone-kid c.kinds_of-w.ensures c.gap-s.ensures c.requires.whole c.requires.one c.requires.within)) c.node.ensures)

-- ---- node

pub node-plan_token-requires : goal.node-plan_token-requires
node-plan_token-requires t c = element-fits c.args.n.at

pub node-returns-then-k-ge-FIRST_TOKEN : goal.node-returns-then-k-ge-FIRST_TOKEN
node-returns-then-k-ge-FIRST_TOKEN t c = by (node-token c.args.n.at c.kind_at-k.ensures c.if-k-ge-FIRST_TOKEN.true) (c.plan_token.ensures _)

pub node-plan_token-requires-in-56 : goal.node-plan_token-requires-in-56
node-plan_token-requires-in-56 t c = element-fits c.args.n.at

pub node-returns-in-2 : goal.node-returns-in-2
unfolding element
node-returns-in-2 t c = by (node-own c.args.n.at c.kind_at-k.ensures 2 c.in-2.is) c.expr.ensures

pub node-returns-in-10 : goal.node-returns-in-10
unfolding element
node-returns-in-10 t c = by (node-own c.args.n.at c.kind_at-k.ensures 10 c.in-10.is) c.list.ensures

pub node-returns-in-22 : goal.node-returns-in-22
unfolding element
node-returns-in-22 t c = by (node-own c.args.n.at c.kind_at-k.ensures 22 c.in-22.is) c.local.ensures

pub node-returns-in-26 : goal.node-returns-in-26
unfolding element
node-returns-in-26 t c = by (node-own c.args.n.at c.kind_at-k.ensures 26 c.in-26.is) c.comp.ensures

pub node-returns-in-27 : goal.node-returns-in-27
unfolding element
node-returns-in-27 t c = by (node-own c.args.n.at c.kind_at-k.ensures 27 c.in-27.is) c.list-in-27.ensures

pub node-returns-in-47 : goal.node-returns-in-47
unfolding element
node-returns-in-47 t c = by (node-own c.args.n.at c.kind_at-k.ensures 47 c.in-47.is) c.args-in-47.ensures

pub node-returns-in-56 : goal.node-returns-in-56
unfolding element
node-returns-in-56 t c = by (node-own c.args.n.at c.kind_at-k.ensures 56 c.in-56.is) (c.plan_token-in-56.ensures _)

pub node-returns-in_default : goal.node-returns-in_default
node-returns-in_default t c = by (node_row c.args.n.at c.kind_at-k.ensures (search rules)) c.row.ensures

-- ---- one

pub one-returns-then-not-is : goal.one-returns-then-not-is
one-returns-then-not-is t c = by (each-other _ _ _ _ _ (class-tested _ c.is.ensures c.kinds_wanted.ensures c.kind_at.ensures (not-true _ (ap not c.if-not-is.true)))) idle

pub one-invariant_of-node : goal.one-invariant_of-node
one-invariant_of-node t c = record { at = kid_at c.requires.kid }

pub one-node-requires : goal.one-node-requires
one-node-requires t c = (kid_falls c.requires.kid c.decreases, tt {0})

pub one-returns : goal.one-returns
one-returns t c = each-one _ _ _ c.requires.word c.requires.kid (class-tested _ c.is.ensures c.kinds_wanted.ensures c.kind_at.ensures (not-false _ (ap not c.if-not-is.false))) (c.plan_optional.ensures _) c.node.ensures (c.plan_end.ensures _)

-- ---- part

pub part-invariant_of-node : goal.part-invariant_of-node
part-invariant_of-node t c = record { at = kid_at (found_kid _ c.args.n.at c.requires.has (ap found c.in-Some.is)) }

pub part-node-requires : goal.part-node-requires
part-node-requires t c = (kid_falls (found_kid _ c.args.n.at c.requires.has (ap found c.in-Some.is)) c.decreases, tt {0})

pub part-returns-in-Some : goal.part-returns-in-Some
part-returns-in-Some t c = by (number-found _ (ap found c.in-Some.is) (found_kid _ c.args.n.at c.requires.has (ap found c.in-Some.is))) c.node.ensures

pub part-returns-in-None : goal.part-returns-in-None
part-returns-in-None t c = by (number-none _ _ (ap found c.in-None.is)) (c.plan_optional.ensures _)

-- ---- piece

pub piece-returns-then-not-is_asked : goal.piece-returns-then-not-is_asked
piece-returns-then-not-is_asked t c = by (piece-unasked _ _ _ _ _ c.entry_at-x.ensures c.is_asked.ensures (ap not c.if-not-is_asked.true)) idle

pub piece-returns-in-Text : goal.piece-returns-in-Text
piece-returns-in-Text t c = by (piece-asked_lem _ _ _ _ _ c.entry_at-x.ensures c.is_asked.ensures (ap not c.if-not-is_asked.false) ∙ piece-text _ _ c.entry_at-x.result c.what_in.ensures c.in-Text.is) (c.plan_word.ensures _)

pub piece-returns-in-Signal : goal.piece-returns-in-Signal
piece-returns-in-Signal t c = by (piece-asked_lem _ _ _ _ _ c.entry_at-x.ensures c.is_asked.ensures (ap not c.if-not-is_asked.false) ∙ piece-signal _ _ c.entry_at-x.result c.what_in.ensures c.in-Signal.is) (c.plan_signal.ensures _)

pub piece-returns-in-Each : goal.piece-returns-in-Each
piece-returns-in-Each t c = by (piece-asked_lem _ _ _ _ _ c.entry_at-x.ensures c.is_asked.ensures (ap not c.if-not-is_asked.false) ∙ piece-each _ _ c.entry_at-x.result c.what_in.ensures c.in-Each.is) c.each.ensures

pub piece-part-requires : goal.piece-part-requires
piece-part-requires t c = (omega (arith, c.decreases), ((want-has _ _ c.wanted_part-f.ensures, c.entry_at-x.ensures.word)))

pub piece-returns-in-Part : goal.piece-returns-in-Part
piece-returns-in-Part t c = by (piece-asked_lem _ _ _ _ _ c.entry_at-x.ensures c.is_asked.ensures (ap not c.if-not-is_asked.false) ∙ piece-part _ _ c.entry_at-x.result c.what_in.ensures c.entry_at-x.ensures.settles c.in-Part.is ∙ ap (number_or _ _) (sym c.wanted_part-f.ensures)) c.part.ensures

pub piece-part-requires-in-Plus : goal.piece-part-requires-in-Plus
piece-part-requires-in-Plus t c = (omega (arith, c.decreases), ((plus-part _ c.plus_part-f.ensures, c.entry_at-x.ensures.word)))

pub piece-returns-in-Plus : goal.piece-returns-in-Plus
piece-returns-in-Plus t c = by (piece-asked_lem _ _ _ _ _ c.entry_at-x.ensures c.is_asked.ensures (ap not c.if-not-is_asked.false) ∙ piece-plus _ _ c.entry_at-x.result c.what_in.ensures c.entry_at-x.ensures.settles c.in-Plus.is ∙ ap (number_or _ _) (sym c.plus_part-f.ensures)) c.part-in-Plus.ensures

-- ---- row

pub row-loop-k-preserved : goal.row-loop-k-preserved
row-loop-k-preserved t c = rowing_more c.loop-k.invariant c.loop-k-test.true c.piece.ensures refl

pub row-returns : goal.row-returns
row-returns t c = rowing-all c.loop-k.invariant c.loop-k-test.false

-- ---- specs

pub specs-returns-then-not-at_child : goal.specs-returns-then-not-at_child
specs-returns-then-not-at_child t c = by (specs-none c.kinds_of-w.ensures c.requires.within c.lead-s.ensures _ c.requires.whole _ _ _ c.at_child.ensures (not-true _ (ap not c.if-not-at_child.true))) idle

pub specs-child-requires : goal.specs-child-requires
specs-child-requires t c = (omega (arith, c.decreases), (spec-kid c.kinds_of-w.ensures c.requires.within c.lead-s.ensures (child_is _ c.at_child.ensures (not-false _ (ap not c.if-not-at_child.false))), (unasked-lies _ _ _ c.unasked-before.ensures c.requires.lies, c.gap-g.ensures.lies)))

pub specs-kids-requires : goal.specs-kids-requires
specs-kids-requires t c = (omega (arith, c.decreases), specs-walks c.kinds_of-w.ensures c.requires.within c.lead-s.ensures _ c.requires.whole (child_is _ c.at_child.ensures (not-false _ (ap not c.if-not-at_child.false))) c.end_at.ensures c.gap-g.ensures)

pub specs-returns : goal.specs-returns
specs-returns t c =
    by (specs-some c.kinds_of-w.ensures c.requires.within c.lead-s.ensures _ c.requires.whole (child_is _ c.at_child.ensures (not-false _ (ap not c.if-not-at_child.false))) c.end_at.ensures c.gap-g.ensures _ _ _)
    (by (unasked-around _ _ c.args.trailing c.unasked-before.ensures _ _ _ _ _ _) c.child.ensures ▸ c.kids.ensures)

-- ---- stmt

pub stmt-invariant_of-node : goal.stmt-invariant_of-node
stmt-invariant_of-node t c = record { at = kid_at c.requires.kid }

pub stmt-node-requires : goal.stmt-node-requires
stmt-node-requires t c = (kid_falls c.requires.kid c.decreases, tt {0})

pub stmt-returns : goal.stmt-returns
unfolding stated
stmt-returns t c = c.keep_waiting.ensures ▸ by (kid-print c.requires.kid) c.node.ensures ▸ c.keep_inline.ensures

-- ---- stmts

pub stmts-returns-then-z : goal.stmts-returns-then-z
stmts-returns-then-z t c = by (statements-over _ _ _ _ _ c.if-z.true) idle

pub stmts-returns-then-is_stopped : goal.stmts-returns-then-is_stopped
stmts-returns-then-is_stopped t c = by (statements-foreign _ (survey-foreign _ c.kinds_of-w.ensures c.survey-o.ensures c.is_stopped.ensures c.if-is_stopped.true)) (c.stop_at.ensures.plans _)

pub stmts-loop-z-init : goal.stmts-loop-z-init
stmts-loop-z-init t c = walking-first _ c.requires c.kinds_of-w.ensures c.gap-s.ensures

pub stmts-stmt-requires : goal.stmts-stmt-requires
stmts-stmt-requires t c =
    let w = c.loop-z.invariant.walks in
    (omega (arith, c.decreases), (walks-kid w (child_is _ c.at_child.ensures c.loop-z-test.true), (w.lies, c.gap-g.ensures.lies)))

pub stmts-loop-z-smaller : goal.stmts-loop-z-smaller
stmts-loop-z-smaller t c = search walks_less

pub stmts-loop-z-preserved : goal.stmts-loop-z-preserved
stmts-loop-z-preserved t c = search walking-more

pub stmts-returns : goal.stmts-returns
stmts-returns t c = stating-all _ c.kinds_of-w.ensures c.gap-s.ensures (survey-outlined _ c.kinds_of-w.ensures c.survey-o.ensures c.is_stopped.ensures c.if-is_stopped.false) c.loop-z.invariant c.at_child.ensures c.loop-z-test.false c.keep_waiting.ensures

-- ---- values

pub values-returns-then-z : goal.values-returns-then-z
values-returns-then-z t c = by (values-over _ _ _ _ _ c.if-z.true) idle

pub values-returns-then-is_stopped : goal.values-returns-then-is_stopped
values-returns-then-is_stopped t c = by (values-foreign _ (survey-foreign _ c.kinds_of-w.ensures c.survey-o.ensures c.is_stopped.ensures c.if-is_stopped.true)) (c.stop_at.ensures.plans _)

pub values-loop-z-init : goal.values-loop-z-init
values-loop-z-init t c = search valuing-none

pub values-invariant_of-node : goal.values-invariant_of-node
values-invariant_of-node t c = record { at = kid_at (walks-kid (c.loop-z.invariant.walking c.requires).walks (child_is _ c.at_child.ensures c.loop-z-test.true)) }

pub values-node-requires : goal.values-node-requires
values-node-requires t c = (kid_falls (walks-kid (c.loop-z.invariant.walking c.requires).walks (child_is _ c.at_child.ensures c.loop-z-test.true)) c.decreases, tt {0})

pub values-loop-z-smaller : goal.values-loop-z-smaller
values-loop-z-smaller t c = walks_less (c.loop-z.invariant.walking c.requires).walks c.at_child.ensures c.loop-z-test.true c.end_at.ensures c.gap-s-in-loop-z.ensures

pub values-loop-z-preserved : goal.values-loop-z-preserved
values-loop-z-preserved t c = search valuing-more

pub values-returns : goal.values-returns
values-returns t c = valuing-all _ c.requires c.kinds_of-w.ensures c.gap-s.ensures (survey-outlined _ c.kinds_of-w.ensures c.survey-o.ensures c.is_stopped.ensures c.if-is_stopped.false) c.loop-z.invariant c.at_child.ensures c.loop-z-test.false
