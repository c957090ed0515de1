-- The outcome of an exported call as one number (clause 15.4), and that it tells the refusal.
pub mod Outcomes
pub mod Places
