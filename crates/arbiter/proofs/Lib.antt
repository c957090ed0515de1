-- Laws on each way out of checks 1 to 6 and 17, and on a table and a state by value.
pub mod Verdicts
pub mod ByValue
pub mod Shapes
