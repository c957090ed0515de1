-- A list of calls, given as numbers, folded from a start (clause 10.8).
pub mod Replay
