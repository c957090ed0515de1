-- What follows of a table that was put in order, by value (clause 8.4) and from bytes to bytes (clause 8.3).
pub mod Promised
pub mod Bytes
