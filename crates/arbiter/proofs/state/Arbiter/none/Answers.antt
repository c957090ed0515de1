-- `arbiter::state::Arbiter::none` meets its contract. Words that are all 0. Assumes nothing.
use Rattle.terms.specs.Limits.{max_places}
use Rattle.layout.specs.Words.{word_count, room_of_words}
use Rattle.layout.proofs.Stores.{zero_state}
use Rattle.arbiter.proofs.state.Arbiter.none.Goals as goal

pub returns : goal.returns
unfolding room_of_words
returns c = zero_state max_places (word_count max_places)
