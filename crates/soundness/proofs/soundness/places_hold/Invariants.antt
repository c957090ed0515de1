-- `soundness::soundness::places_hold` meets its contract. The loop's invariant, `Held`: what the first p places have come to. Assumes nothing.
use Rattle.soundness.proofs.Walk.{Held}
use Rattle.soundness.proofs.soundness.places_hold.Given as goal

abbrev pub invariant-loop-p : goal.invariant-loop-p
invariant-loop-p l = Held l.words l.d l.n l.rates l.room l.p
