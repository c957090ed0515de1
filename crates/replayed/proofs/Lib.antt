-- What `replay` writes, answer by answer.
pub mod Written
