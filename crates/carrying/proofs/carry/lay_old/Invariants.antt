-- `carrying::carry::lay_old` meets its contract. The loop's invariant: D, N, the slot number and the first p places are the old state's, and
-- all else is 0. Assumes nothing.
use Rattle.layout.specs.Words.{room_of_words}
use Rattle.carrying.specs.OldWords.{old_state_of}
use Rattle.carrying.proofs.Laid.{Carrying}
use Rattle.carrying.proofs.carry.lay_old.Given as goal

abbrev pub invariant-loop-p : goal.invariant-loop-p
invariant-loop-p l = Carrying (room_of_words l.fn.words) (old_state_of l.old) l.words l.p
