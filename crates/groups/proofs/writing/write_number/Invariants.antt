-- The first k groups stand in front of what the buffer held, and this is the rest of the number.
use Rattle.groups.proofs.Writings.{Put}
use Rattle.groups.proofs.writing.write_number.Given as goal

abbrev pub invariant-loop-k : goal.invariant-loop-k
invariant-loop-k l = Put l.x l.initial.buffer l.k l.rest l.buffer
