-- A table's bytes: what reading and writing them come to.
pub mod Reading
pub mod Writing
