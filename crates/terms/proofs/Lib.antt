-- Laws that belong to no one function: refusals, checks, tables made of their rows, walks over places, sums above a place, figures, sound
-- states, room for more places, and chains.
pub mod Causes
pub mod Checks
pub mod Tables
pub mod AsTests
pub mod Places
pub mod Above
pub mod Figures
pub mod Sound
pub mod Longer
pub mod Chain
