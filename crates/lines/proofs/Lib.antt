-- The laws of the texts.
pub mod Digits
pub mod Writing
