-- `admission::checks::check_tail` meets its contract. The loop's invariant: the rows from p on are clear exactly if those from N on
-- are. Assumes nothing.
use Rattle.admission.proofs.Walks.{Cleared}
use Rattle.admission.proofs.checks.check_tail.Given as goal

abbrev pub invariant-loop-p : goal.invariant-loop-p
invariant-loop-p l = Cleared l.words l.p
