use Rattle.std.proofs.Common.{◌∙◌, ◌<◌, arith}
use Rattle.terms.specs.Limits.{max_places}
use Rattle.admission.specs.Checked.{table_in}
use Rattle.admission.proofs.Rows.{denominator_word, count_word, placed}
use Rattle.admission.proofs.Walks.{carried_none, carried_more, carried_stop}
use Rattle.admission.proofs.finishes.check_finishes.Goals as goal

pub loop-p-init : goal.loop-p-init
loop-p-init c = carried_none _

pub requestor-r-requires : goal.requestor-r-requires
requestor-r-requires c =
    let below : c.loop-p.p < (table_in c.slice-words.result.now).count = omega (arith, count_word c.slice-words.result.now) in
    (placed max_places _ _ c.slice-words.ensures.checked below).there

pub returns-then-not-finish_is_within : goal.returns-then-not-finish_is_within
returns-then-not-finish_is_within c =
    let below : c.loop-p.p < (table_in c.slice-words.result.now).count = omega (arith, count_word c.slice-words.result.now) in
    let d = c.denominator-d.ensures ∙ denominator_word c.slice-words.result.now in
    rw (c.into.ensures, ← c.slice-words.ensures.same)
    (carried_stop _ _ _ _ _ _ _ _ c.loop-p.invariant c.slice-words.ensures.checked below d c.requestor-r.ensures c.finish_is_within.ensures c.if-not-finish_is_within.true)

pub loop-p-preserved : goal.loop-p-preserved
loop-p-preserved c =
    let below : c.loop-p.p < (table_in c.slice-words.result.now).count = omega (arith, count_word c.slice-words.result.now) in
    let d = c.denominator-d.ensures ∙ denominator_word c.slice-words.result.now in
    carried_more _ _ _ _ _ _ _ _ c.loop-p.invariant c.slice-words.ensures.checked below d c.requestor-r.ensures c.finish_is_within.ensures c.if-not-finish_is_within.false
