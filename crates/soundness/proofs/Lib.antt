-- Test 23 as a row of tests, the walk over the places, and what follows for a place that is asked about.
pub mod Tests
pub mod Walk
pub mod Places
