-- How many bytes of a log are a place's, and the lead of a place over a log.
pub mod Counts
pub mod Lead
