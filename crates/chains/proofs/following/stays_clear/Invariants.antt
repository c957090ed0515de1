-- `chains::following::stays_clear` meets its contract. The loop's invariant, `Clear`: what is left to test comes to the same as all of it.
-- Assumes nothing.
use Rattle.chains.proofs.Walks.{Clear}
use Rattle.chains.proofs.following.stays_clear.Given as goal

abbrev pub invariant-loop-step : goal.invariant-loop-step
invariant-loop-step l = Clear l.names l.n l.p l.at l._step
