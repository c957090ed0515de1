-- The theorems about a table that was put in order.
pub mod Promised
pub mod Bytes
