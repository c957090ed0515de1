-- `chains::following::check_circles` meets its contract. The loop's invariant: check 16 from place p on finds what the whole of it finds.
-- Assumes nothing.
use Rattle.chains.proofs.Tables.{CirclesWalked}
use Rattle.chains.proofs.following.check_circles.Given as goal

abbrev pub invariant-loop-p : goal.invariant-loop-p
invariant-loop-p l = CirclesWalked l.words l.names l.p
