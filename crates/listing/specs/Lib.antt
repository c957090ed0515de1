-- What the program slotlist prints for its input bytes, step by step.
pub mod Listing
pub mod Room
