-- `lead_parts::count_grants` meets its contract. The loop's invariant, `Counted`: of the bytes so far, so many are p. Assumes nothing.
use Rattle.lead_parts.proofs.Counts.{Counted}
use Rattle.lead_parts.proofs.count_grants.Given as goal

abbrev pub invariant-loop-byte : goal.invariant-loop-byte
invariant-loop-byte l = Counted l.p l.log l.grants l.byte-index
