-- What each call for firmware in C or Rust does with lent memory (clause 15.5). The words themselves: layout. What holds of the calls
-- together: on_words.
pub mod Exported
