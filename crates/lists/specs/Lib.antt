-- What every other crate's definitions are made of: choices, sums, tests over a list, a list in another order, lists written
-- over from their start, two lists side by side, what stands at places, and runs of calls on any state.
pub mod Choices
pub mod Sums
pub mod Orders
pub mod Overwriting
pub mod Pairs
pub mod Places
pub mod Runs
