-- The laws of the bytes of a list's numbers.
pub mod Counts
