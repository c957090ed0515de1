-- What the calls by value hand back (clause 1.4), in the definitions' values.
pub mod ByValue
