-- `ordering::search::lower` meets its contract. The loop's invariant: the rows between i and q have gone up. Assumes nothing.
use Rattle.ordering.proofs.InPlace.{Lowering}
use Rattle.ordering.proofs.search.lower.Given as goal

abbrev pub invariant-loop-q : goal.invariant-loop-q
invariant-loop-q l = Lowering l.initial.words l.i l.p l.words l.q
