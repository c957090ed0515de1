-- What an ordering of a table's bytes comes to.
pub mod Ordered
