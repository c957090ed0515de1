-- The state as words, and a table as numbers: where each field stands, and that reading and writing are inverse.
pub mod Words
pub mod Numbers
pub mod RoundTrip
