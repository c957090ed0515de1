-- An old state and its carrying over, what its words are, and which words it fits into.
pub mod Carry
pub mod OldWords
pub mod Fits
