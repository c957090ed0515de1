-- The rule of a slot, what a post and a slot do to a state, and a run with its log.
pub mod Rule
pub mod Grants
pub mod Calls
pub mod Log
