-- The first p rows stand in the words, and what is left of the bytes comes to the same as all of them.
use Rattle.layout.specs.Words.{room_of_words}
use Rattle.starts.proofs.Rows.{Reading}
use Rattle.starts.proofs.laying.lay_places.Given as goal

abbrev pub invariant-loop-p : goal.invariant-loop-p
invariant-loop-p l = Reading (room_of_words l.fn.words) l.d l.n l.bytes l.words l.p l.left
