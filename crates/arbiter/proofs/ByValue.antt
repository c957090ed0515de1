-- A state by value has room for the largest N, and is told by its words. Assumes nothing.
use Rattle.std.proofs.Common.{◌≡◌, ap, sym, ◌∙◌, true, List, ℕ, eq-eqb, length}
use Rattle.terms.specs.Limits.{max_places}
use Rattle.terms.specs.State.{State}
use Rattle.layout.specs.Words.{word_count, room_of_words, right_length, state_words, state_of}
use Rattle.layout.proofs.RoundTrip.{room_of, state_written_back}
use Rattle.arbiter.specs.ByValue.{HeldTells}

module _ (words : List ℕ) (full : length words ≡ word_count max_places) where
  pub room_full : room_of_words words ≡ max_places
  room_full = room_of max_places words full

  pub right_full : right_length max_places words ≡ true
  unfolding right_length
  right_full = rw (room_full, eq-eqb (length words) (word_count max_places) full)

  -- what is asked of a state with the room of its words
  pub query_held : {X : Type 0} (f : ℕ → State → X) → f (room_of_words words) (state_of words) ≡ f max_places (state_of words)
  query_held f = ap (λ k. f k (state_of words)) room_full

pub held_tells : HeldTells
held_tells s t full-s full-t e =
    let same : s.words ≡ t.words =
    sym (state_written_back max_places s.words (right_full s.words full-s)) ∙ ap state_words e ∙ state_written_back max_places t.words (right_full t.words full-t) in
    ap (λ w. record { words = w }) same
