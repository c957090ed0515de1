-- The first p counts are read.
use Rattle.reads.proofs.Counting.{Counting}
use Rattle.reads.proofs.counts.read_counts.Given as goal

abbrev pub invariant-loop-p : goal.invariant-loop-p
invariant-loop-p l = Counting l.n l.bytes l.counts l.p l.left
