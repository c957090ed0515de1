use Rattle.std.proofs.Common.{refl, ap, ◌∙◌, arith}
use Rattle.terms.specs.Limits.{max_places}
use Rattle.admission.specs.Checked.{rows_in}
use Rattle.admission.proofs.Rows.{count_word, head_there}
use Rattle.terms.specs.Figures.{bursts_above, rates_above}
use Rattle.ordering.specs.InPlace.{Remaining}
use Rattle.ordering.proofs.InPlace.{searching_none, searching_stop, searching_more, searching_end, sums_fit, is_last, is_inside, its_words, its_sums, its_place}
use Rattle.ordering.proofs.search.search.Goals as goal

pub count-n-requires : goal.count-n-requires
count-n-requires c = head_there _ max_places c.requires.right

pub sums_above-all-requires : goal.sums_above-all-requires
sums_above-all-requires c =
    let all : Remaining max_places c.args.words.now c.count-n.result (bursts_above c.count-n.result (rows_in c.args.words.now)) (rates_above c.count-n.result (rows_in c.args.words.now)) =
    record { checked = c.requires; few = omega (arith, c.count-n.ensures, count_word c.args.words.now); bursts_are = refl; rates_are = refl } in
    let fit = sums_fit _ _ _ _ _ all in
    (fit.0, omega (arith, fit.1), omega (arith, fit.2))

pub loop-p-init : goal.loop-p-init
loop-p-init c = searching_none _ _ _ _ _ c.requires (c.count-n.ensures ∙ count_word _) (ap (λ s. s.bursts) c.sums_above-all.ensures) (ap (λ s. s.rates) c.sums_above-all.ensures)

pub returns : goal.returns
returns c = searching_end _ _ _ _ _ _ c.loop-p.invariant (omega (arith, c.loop-p-test.false))

pub burst-requires : goal.burst-requires
burst-requires c = (its_words _ _ _ _ _ _ c.loop-p.invariant c.loop-p-test.true _ c.in-Some.ensures).there

pub overflow_sub-all : goal.overflow_sub-all
overflow_sub-all c = rw c.burst.ensures (its_sums _ _ _ _ _ _ c.loop-p.invariant c.loop-p-test.true _ c.in-Some.ensures).0

pub rate-requires : goal.rate-requires
rate-requires c = (its_words _ _ _ _ _ _ c.loop-p.invariant c.loop-p-test.true _ c.in-Some.ensures).there

pub overflow_sub-all-in-Some : goal.overflow_sub-all-in-Some
overflow_sub-all-in-Some c = rw c.rate.ensures (its_sums _ _ _ _ _ _ c.loop-p.invariant c.loop-p-test.true _ c.in-Some.ensures).1

pub lower-requires : goal.lower-requires
lower-requires c =
    let place = its_place _ _ _ _ _ _ c.loop-p.invariant c.loop-p-test.true _ c.in-Some.ensures in
    (c.loop-p.invariant.remain.checked.right, place.0, place.1)

pub loop-p-preserved : goal.loop-p-preserved
loop-p-preserved c =
    let last = is_last _ _ _ _ _ _ c.loop-p.invariant c.loop-p-test.true _ c.in-Some.ensures in
    let inside = is_inside _ _ _ _ _ _ c.loop-p.invariant c.loop-p-test.true _ c.in-Some.ensures in
    rw (c.burst.ensures, c.rate.ensures) (searching_more _ _ _ _ _ _ c.loop-p.invariant _ (omega arith) _ inside c.lower.ensures last)

pub returns-in-None : goal.returns-in-None
returns-in-None c = rw c.into.ensures at c.turn_down.ensures.told ∙ searching_stop _ _ _ _ _ _ c.loop-p.invariant c.loop-p-test.true c.in-None.ensures
