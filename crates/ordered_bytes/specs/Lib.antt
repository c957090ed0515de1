-- From a table's bytes to the bytes of the table in order (clause 8.3).
pub mod OrderBytes
