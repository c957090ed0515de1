-- The number and the place of every refusal.
pub mod Numbering
pub mod Places
