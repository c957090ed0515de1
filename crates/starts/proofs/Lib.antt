-- A table's bytes read into words, and what a start from a table's bytes comes to.
pub mod Rows
pub mod Begun
