-- `admission::sums::rates_above` meets its contract. The loop's invariant: the sum of the rates above place q. Assumes nothing.
use Rattle.terms.specs.Table.{rate}
use Rattle.admission.proofs.Walks.{Summed}
use Rattle.admission.proofs.sums.rates_above.Given as goal

abbrev pub invariant-loop-q : goal.invariant-loop-q
invariant-loop-q l = Summed rate l.words l.rates l.q
