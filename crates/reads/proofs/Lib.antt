-- The laws of what is read.
pub mod Counting
pub mod Beginnings
