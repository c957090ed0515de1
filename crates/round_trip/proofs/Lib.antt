-- The round trip, from the laws of table_bytes.
pub mod RoundTrip
