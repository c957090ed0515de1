-- Which words an old state's words are carried over into (clause 15.3).
use Rattle.std.specs.Prelude.{Bool, ◌&&◌, List, ℕ, leb}
use Rattle.layout.specs.Words.{room_of_words, right_length}
use Rattle.carrying.specs.OldWords.{old_room_of, old_right_length}

-- words of today with room for at least as many places (clause 15.3)
unfoldable pub fits_into : (old_most most : ℕ) → (old words : List ℕ) → Bool
fits_into old_most most old words = old_right_length old_most old && (right_length most words && leb (old_room_of old) (room_of_words words))
