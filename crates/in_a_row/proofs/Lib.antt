-- The steps in a row, and what the loop of a caller needs to end.
pub mod InARow
pub mod Progress
