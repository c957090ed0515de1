-- The laws of queries about words.
pub mod Queries
