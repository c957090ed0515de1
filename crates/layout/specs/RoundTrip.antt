-- Clause 15.1: a state's words, read back, are that state; words of the right length, read and written again, are the same words. So it is
-- with a table and its numbers (clause 2.6). For any room.
use Rattle.std.specs.Prelude.{◌≡◌, true, List, ℕ, ◌≤◌, length}
use Rattle.terms.specs.State.{State, Shaped}
use Rattle.terms.specs.Table.{Table}
use Rattle.layout.specs.Words.{room_of_words, right_length, state_words, words_state, state_of}
use Rattle.layout.specs.Numbers.{right_numbers, all_numbers, numbers_table}

abbrev pub WordsReadBack : Type 0
WordsReadBack =
    (most room : ℕ) (s : State) → Shaped room s → 1 ≤ room → room ≤ most
    → (right_length most (state_words s) ≡ true) × (room_of_words (state_words s) ≡ room) × (words_state room (state_words s) ≡ s)

-- any words are those of a state that the claims on states hold for (clause 15.1)
abbrev pub WordsShaped : Type 0
WordsShaped = (room : ℕ) (words : List ℕ) → Shaped room (words_state room words)

abbrev pub StateWrittenBack : Type 0
StateWrittenBack = (most : ℕ) (words : List ℕ) → right_length most words ≡ true → state_words (state_of words) ≡ words

-- a table's numbers are that table, and any numbers of the right length are a table's (clause 2.6)
abbrev pub NumbersReadBack : Type 0
NumbersReadBack =
    (room : ℕ) (t : Table) → length t.requestors ≡ room → (right_numbers room (all_numbers t) ≡ true) × (numbers_table room (all_numbers t) ≡ t)

abbrev pub TableWrittenBack : Type 0
TableWrittenBack = (room : ℕ) (numbers : List ℕ) → right_numbers room numbers ≡ true → all_numbers (numbers_table room numbers) ≡ numbers
