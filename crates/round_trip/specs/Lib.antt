-- That reading a table's bytes and writing them are inverse.
pub mod RoundTrip
