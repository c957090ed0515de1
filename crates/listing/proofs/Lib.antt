-- The laws of the listing's steps.
pub mod Posting
pub mod Telling
