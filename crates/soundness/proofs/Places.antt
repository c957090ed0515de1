-- Words that pass test 23 hold a table that passes checks 1 to 6. For any room. Assumes nothing.
use Rattle.std.proofs.Common.{◌≡◌, true, List, ℕ}
use Rattle.terms.specs.State.{sound}
use Rattle.terms.proofs.Sound.{sound_table}
use Rattle.layout.specs.Words.{room_of_words, right_length, state_of}
use Rattle.admission.specs.Checked.{Checked}

pub sound_checked : (most : ℕ) (words : List ℕ) → right_length most words ≡ true → sound (room_of_words words) (state_of words) ≡ true → Checked most words
sound_checked most words right ok = record { right = right; passes = sound_table (room_of_words words) (state_of words) ok }
