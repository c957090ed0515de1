-- The laws of a table's bytes.
pub mod Readings
pub mod Writings
pub mod Accepted
pub mod Opened
