-- `lines::lines::put_credits` meets its contract. The loop's invariant: the credits of the first p places are put. Assumes nothing.
use Rattle.layout.specs.Words.{state_of}
use Rattle.lists.proofs.Putting.{Put}
use Rattle.lines.proofs.Writing.{credits_to}
use Rattle.lines.proofs.lines.put_credits.Given as goal

abbrev pub invariant-loop-p : goal.invariant-loop-p
invariant-loop-p l = Put (credits_to l.p (state_of l.words).accounts) l.initial.out l.out l.at
