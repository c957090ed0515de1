-- What words that passed test 23 leave room for, and what a slot and a run make of them.
pub mod Readiness
pub mod Posting
pub mod Going
