-- The laws of a count and of a difference of two products.
pub mod Counts
pub mod Signed
