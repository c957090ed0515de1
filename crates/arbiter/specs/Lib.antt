-- What a table and a state that are handed in by value are in the definitions.
pub mod ByValue
