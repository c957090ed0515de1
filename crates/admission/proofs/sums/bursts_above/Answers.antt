use Rattle.std.proofs.Common.{refl, arith}
use Rattle.terms.specs.Table.{burst}
use Rattle.admission.proofs.Rows.{sum_next}
use Rattle.admission.proofs.Walks.{summed_at_most}
use Rattle.admission.proofs.sums.bursts_above.Goals as goal

pub overflow_add-bursts : goal.overflow_add-bursts
overflow_add-bursts c = omega (arith, summed_at_most burst refl _ _ _ c.loop-q.invariant (omega arith) c.args.p (omega arith))

pub loop-q-preserved : goal.loop-q-preserved
loop-q-preserved c = omega (arith, sum_next c.args.words.now burst refl c.loop-q.q (omega arith))
