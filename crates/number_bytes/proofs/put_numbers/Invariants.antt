-- The bytes of the first numbers stand in front of what the buffer held.
use Rattle.number_bytes.proofs.Counts.{Written}
use Rattle.number_bytes.proofs.put_numbers.Given as goal

abbrev pub invariant-loop-x : goal.invariant-loop-x
invariant-loop-x l = Written l.numbers l.initial.buffer l.buffer l.at l.x-index
