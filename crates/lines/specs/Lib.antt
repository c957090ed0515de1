-- The texts that the program slotlist prints: numbers and items, and the lines that are made of them.
pub mod Text
pub mod Lines
