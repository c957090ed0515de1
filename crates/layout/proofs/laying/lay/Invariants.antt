-- `layout::laying::lay` meets its contract. The loop's invariant: D and N are laid, and so are the first p of the numbers' rows.
-- Assumes nothing.
use Rattle.layout.proofs.Laid.{NumbersLaying}
use Rattle.layout.proofs.laying.lay.Given as goal

abbrev pub invariant-loop-p : goal.invariant-loop-p
invariant-loop-p l = NumbersLaying l.numbers l.fn.words l.words l.p
