-- `moves::runs::log_slots` meets its contract. The first slots are done, and their bytes stand in front of what the log held. Assumes
-- nothing.
use Rattle.moves.proofs.Going.{Going}
use Rattle.moves.proofs.runs.log_slots.Given as goal

abbrev pub invariant-loop-at : goal.invariant-loop-at
invariant-loop-at l = Going l.fn.words l.d l.n l.fn.log l.words l.log l.at
