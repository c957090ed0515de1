-- The parts of test 23 in the order in which words are tested.
pub mod Soundness
