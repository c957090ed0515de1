-- The laws that reading and writing go by, and the theorem that they are inverse.
pub mod Readings
pub mod Writings
pub mod Inverse
