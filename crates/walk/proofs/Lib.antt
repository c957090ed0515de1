-- The laws of a walk over the places of words.
pub mod Walked
