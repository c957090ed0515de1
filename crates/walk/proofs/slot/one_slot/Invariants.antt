-- `walk::slot::one_slot` meets its contract. No place before p was eligible, and each was passed over; then the granted place is served,
-- and the places before q had their turn. Assumes nothing.
use Rattle.std.proofs.Common.{◌-◌}
use Rattle.walk.proofs.Walked.{Searching, Passing}
use Rattle.walk.proofs.slot.one_slot.Given as goal

abbrev pub invariant-loop-p : goal.invariant-loop-p
invariant-loop-p l = Searching l.fn.words l.n l.d l.words l.p

abbrev pub decreases-loop-p : goal.decreases-loop-p
decreases-loop-p l = l.n - l.p

abbrev pub invariant-loop-q : goal.invariant-loop-q
invariant-loop-q l = Passing l.fn.words l.n l.d l.granted l.words l.q
