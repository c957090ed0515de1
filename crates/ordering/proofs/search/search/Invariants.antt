-- `ordering::search::search` meets its contract. The loop's invariant: what comes of those that remain is the order of the table. Assumes nothing.
use Rattle.terms.specs.Limits.{max_places}
use Rattle.ordering.proofs.InPlace.{Searching}
use Rattle.ordering.proofs.search.search.Given as goal

abbrev pub invariant-loop-p : goal.invariant-loop-p
invariant-loop-p l = Searching max_places l.fn.words l.words l.p l.all.bursts l.all.rates
