-- `arbiter::checks::check_rows` meets its contract. The loop's invariant: the check from place p on finds what the whole of it finds.
-- Assumes nothing.
use Rattle.terms.specs.Table.{offered_row_verdict}
use Rattle.admission.specs.Checked.{table_in}
use Rattle.admission.proofs.Walks.{Walked}
use Rattle.arbiter.proofs.checks.check_rows.Given as goal

abbrev pub invariant-loop-p : goal.invariant-loop-p
invariant-loop-p l = Walked (offered_row_verdict (table_in l.words).denominator) l.words l.p
