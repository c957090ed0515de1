-- The queries about a state with room for more places, and that a carried-over state runs on alike.
pub mod Longer
pub mod Alike
