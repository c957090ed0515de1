-- `admission::sums::bursts_above` meets its contract. The loop's invariant: the sum of the bursts above place q. Assumes nothing.
use Rattle.terms.specs.Table.{burst}
use Rattle.admission.proofs.Walks.{Summed}
use Rattle.admission.proofs.sums.bursts_above.Given as goal

abbrev pub invariant-loop-q : goal.invariant-loop-q
invariant-loop-q l = Summed burst l.words l.bursts l.q
