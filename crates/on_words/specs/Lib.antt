-- What holds of the calls on lent words together (clause 15.1), that the service bounds hold from a start with outcome 0 on, that an
-- installed basin still starts, that bytes put in order start, that room makes no difference, what becomes of an old unit's words, and
-- worked examples of each.
pub mod Claims
pub mod Begins
pub mod Installed
pub mod Ordered
pub mod Room
pub mod Carried
pub mod Rows
