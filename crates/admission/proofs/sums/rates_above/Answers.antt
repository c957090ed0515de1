use Rattle.std.proofs.Common.{refl, arith}
use Rattle.terms.specs.Table.{rate}
use Rattle.admission.proofs.Rows.{sum_next}
use Rattle.admission.proofs.Walks.{summed_at_most}
use Rattle.admission.proofs.sums.rates_above.Goals as goal

pub overflow_add-rates : goal.overflow_add-rates
overflow_add-rates c = omega (arith, summed_at_most rate refl _ _ _ c.loop-q.invariant (omega arith) c.args.p (omega arith))

pub loop-q-preserved : goal.loop-q-preserved
loop-q-preserved c = omega (arith, sum_next c.args.words.now rate refl c.loop-q.q (omega arith))
