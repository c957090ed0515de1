-- Numbers in groups of seven bits: how they are read and written, and that the two are inverse.
pub mod Groups
pub mod Inverse
