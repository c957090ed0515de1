-- What a walk over the places asks of words, and what it makes of them: the rule of a slot on the state that they are.
pub mod Walk
