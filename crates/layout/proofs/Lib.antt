-- The laws of a state's words and of a table's numbers: the round trips, what a store makes of the state, and a table
-- laid into words.
pub mod Items
pub mod RoundTrip
pub mod TableNumbers
pub mod Stores
pub mod Laid
