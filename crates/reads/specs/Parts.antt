-- The code's answers of a reading in the values of `Reads`: the counts of a slot, and the beginning, each with the rest of the bytes.
use Rattle.std.specs.Prelude.{List, ℕ, take, Result, Ok, Err}
use Rattle.std.specs.Borrow.{Bor}
use Rattle.terms.specs.State.{State}
use Rattle.terms.specs.declared.refusals.Cause.{Cause}
use Rattle.terms.specs.Refusals.{refusal_of}
use Rattle.arbiter.specs.declared.state.Arbiter.{Arbiter}
use Rattle.arbiter.specs.ByValue.{held}
use Rattle.table_bytes.specs.Reading.{Read, read, stop}

-- the first n of the array
abbrev pub counts_of : (n : ℕ) → Result (List ℕ × Bor (List ℕ)) Cause → Read (List ℕ)
counts_of n (Ok r) = read (take n r.0) r.1.now
counts_of n (Err c) = stop (refusal_of c)

-- the state
abbrev pub begun_of : Result (Arbiter × Bor (List ℕ)) Cause → Read State
begun_of (Ok r) = read (held r.0) r.1.now
begun_of (Err c) = stop (refusal_of c)

-- the state alone, ahead of this rest
abbrev pub begun_with : List ℕ → Result Arbiter Cause → Read State
begun_with rest (Ok s) = read (held s) rest
begun_with rest (Err c) = stop (refusal_of c)
