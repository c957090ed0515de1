-- Words that passed test 23, with their D and N. What post, slot and run do stands in rule.
pub mod Moves
