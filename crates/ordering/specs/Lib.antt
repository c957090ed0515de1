-- Places for a table's requestors by their needs: how they are given away (clause 8.1), in place on words, and what is claimed of it
-- (clause 8.2).
pub mod Order
pub mod InPlace
pub mod Claims
