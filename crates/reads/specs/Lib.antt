-- What the program slotlist reads of its input bytes, and the code's results in these values.
pub mod Reads
pub mod Parts
