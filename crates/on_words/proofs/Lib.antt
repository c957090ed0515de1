-- The claims, that room makes no difference, an old unit's words, and the one proof that all rows pass.
pub mod Claims
pub mod Begins
pub mod Installed
pub mod Ordered
pub mod Longer
pub mod LongerStart
pub mod Room
pub mod Carried
pub mod Rows
