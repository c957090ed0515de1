-- The laws that replay goes by.
pub mod Replays
