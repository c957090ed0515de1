-- `opening::open` meets its contract. The loop's invariant: the first p accounts are fresh, and the others as they were. Assumes
-- nothing.
use Rattle.opening.proofs.Opened.{Opening}
use Rattle.opening.proofs.open.Given as goal

abbrev pub invariant-loop-p : goal.invariant-loop-p
invariant-loop-p l = Opening l.fn.words l.fn.first.0 l.words l.p
