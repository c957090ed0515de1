-- The laws of a start's end: the accounts of words are opened, place after place.
pub mod Opened
