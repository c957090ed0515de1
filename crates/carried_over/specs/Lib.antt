-- What follows of an old state that was carried over (clause 11.5).
pub mod Alike
