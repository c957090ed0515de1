-- `admission::finishes::check_finishes` meets its contract. The loop's invariant: the sums above place p are carried along, and check 7
-- from there on finds what the whole of it finds. Checks 1 to 6 keep the parts of each figure within their limits. Assumes nothing.
use Rattle.admission.proofs.Walks.{Carried}
use Rattle.admission.proofs.finishes.check_finishes.Given as goal

abbrev pub invariant-loop-p : goal.invariant-loop-p
invariant-loop-p l = Carried l.words l.bursts l.rates l.p
