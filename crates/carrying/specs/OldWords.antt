-- The words of an old state, layout 2 (clause 15.6): D, N and the slot number, and then, place after place, rate, burst, need, within,
-- credit and backlog. So they were kept, and that is fixed: nothing of today's layout is in it.
use Rattle.std.specs.Prelude.{Bool, ◌&&◌, List, ℕ, ◌+◌, ◌-◌, ◌*◌, ◌/◌, eqb, length, get_or}
use Rattle.lists.specs.Choices.{in_range}
use Rattle.lists.specs.Places.{places_from}
use Rattle.arbiter.specs.declared.old.OldArbiter.{OldArbiter}
use Rattle.carrying.specs.Carry.{OldPlace, OldState}

-- where the words of place p began, and how many words there were with room for so many places
abbrev pub old_place_start : (p : ℕ) → ℕ
old_place_start p = 3 + 6 * p

abbrev pub old_word_count : (room : ℕ) → ℕ
old_word_count room = old_place_start room

-- how many places words had room for
unfoldable pub old_room_of : List ℕ → ℕ
old_room_of words = (length words - 3) / 6

-- as many words as an old state with room for 1 to `most` places had
unfoldable pub old_right_length : (most : ℕ) → List ℕ → Bool
old_right_length most words = eqb (length words) (old_word_count (old_room_of words)) && in_range 1 most (old_room_of words)

-- what stood at place p
abbrev pub old_place_in : List ℕ → (p : ℕ) → OldPlace
old_place_in words p = record {
  rate = get_or words (old_place_start p) 0;
  burst = get_or words (old_place_start p + 1) 0;
  need = get_or words (old_place_start p + 2) 0;
  within = get_or words (old_place_start p + 3) 0;
  credit = get_or words (old_place_start p + 4) 0;
  backlog = get_or words (old_place_start p + 5) 0;
}

-- the old state that words with room for so many places were (clause 15.6)
unfoldable pub old_words_state : (room : ℕ) → List ℕ → OldState
old_words_state room words = record {
  denominator = get_or words 0 0;
  count = get_or words 1 0;
  slot = get_or words 2 0;
  places = places_from (old_place_in words) 0 room;
}

-- with the room of the words (clause 11.4)
abbrev pub old_state_of : List ℕ → OldState
old_state_of words = old_words_state (old_room_of words) words

-- an old state that is handed in by value
abbrev pub old_held : OldArbiter → OldState
old_held s = old_state_of s.words
