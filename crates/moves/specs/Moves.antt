-- Words that passed test 23 (clause 11.1), and their D and N.
use Rattle.std.specs.Prelude.{◌≡◌, true, List, ℕ}
use Rattle.terms.specs.Limits.{max_places}
use Rattle.terms.specs.State.{sound}
use Rattle.layout.specs.Words.{room_of_words, right_length, state_of}

pub record Ready (words : List ℕ) (d n : ℕ) : Type 0 where
  pub right : right_length max_places words ≡ true
  pub sound : sound (room_of_words words) (state_of words) ≡ true
  pub denominator : d ≡ (state_of words).table.denominator
  pub count : n ≡ (state_of words).table.count
