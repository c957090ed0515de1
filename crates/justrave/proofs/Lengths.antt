-- The test of lengths ahead of a call. Assumes nothing.
use Rattle.std.proofs.Common.{◌≡◌, Bool, true, false, ◌&&◌, List, ℕ, ◌≤◌, arith, length}
use Rattle.terms.specs.declared.refusals.Refusal.{Refusal}
use Rattle.terms.specs.State.{State}
use Rattle.layout.specs.Words.{room_of_words, right_length, state_of}
use Rattle.layout.proofs.RoundTrip.{right}
use Rattle.outcomes.specs.Places.{Below}
use Rattle.outcomes.proofs.Numbering.{below_more}
use Rattle.justrave.specs.Exported.{on_state}

-- right lengths: the call on the state that the words are; a wrong one turns it down
module _ {X : Type 0} (most : ℕ) (words : List ℕ) (beside : Bool) (down : X) (call : ℕ → State → X) where
  pub on_open : (right_length most words && beside) ≡ true → on_state most words beside down call ≡ call (room_of_words words) (state_of words)
  unfolding on_state
  on_open z = rw z

  pub on_shut : (right_length most words && beside) ≡ false → on_state most words beside down call ≡ down
  unfolding on_state
  on_shut z = rw z

-- room for the head, and for as many places as a state may have
pub lent_head : (most : ℕ) (words : List ℕ) → right_length most words ≡ true → 3 ≤ length words
lent_head most words z = omega (arith, (right most words z).long)

pub lent_room : (most : ℕ) (words : List ℕ) → right_length most words ≡ true → room_of_words words ≤ most
lent_room most words z = (right most words z).room_most

-- a place that there is room for is below the largest N
pub below_most : (most : ℕ) (words : List ℕ) → right_length most words ≡ true → (r : Refusal) → Below (room_of_words words) r.place → Below most r.place
below_most most words z r b = below_more (room_of_words words) most r.place (lent_room most words z) b
