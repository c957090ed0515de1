-- `chains::following::check_names` meets its contract. The loop's invariant: check 11 of the names from place p on finds what the whole of it
-- finds. Assumes nothing.
use Rattle.chains.proofs.Tables.{NamesWalked}
use Rattle.chains.proofs.following.check_names.Given as goal

abbrev pub invariant-loop-p : goal.invariant-loop-p
invariant-loop-p l = NamesWalked l.words l.names l.p
