-- A start into lent words, or a carrying over: turned down by a length, or what it comes to. Assumes nothing.
use Rattle.std.proofs.Common.{◌≡◌, Bool, true, false, List, ℕ}
use Rattle.lists.specs.Runs.{Result}
use Rattle.terms.specs.declared.refusals.Cause.{Cause}
use Rattle.terms.specs.State.{State}
use Rattle.terms.specs.Refusals.{refusal_of}
use Rattle.terms.specs.Answers.{Answer, refused}
use Rattle.terms.specs.Start.{start}
use Rattle.carrying.specs.Carry.{carry}
use Rattle.table_bytes.specs.Reading.{read_table}
use Rattle.layout.specs.Words.{room_of_words, right_length}
use Rattle.layout.specs.Numbers.{numbers_table}
use Rattle.carrying.specs.OldWords.{old_room_of, old_state_of}
use Rattle.carrying.specs.Fits.{fits_into}
use Rattle.carrying.proofs.Fits.{fit}
use Rattle.starts.specs.Starts.{begun}
use Rattle.outcomes.specs.Outcomes.{wrong_length}
use Rattle.outcomes.specs.Places.{Below}
use Rattle.outcomes.proofs.Places.{start_names_below, table_start_names_below, carry_names_below}
use Rattle.justrave.specs.Exported.{stated, leaves}
use Rattle.justrave.proofs.Lengths.{below_most}

module _ (words : List ℕ) (made : Result State Answer) (lengths : Bool) where
  pub leaves_open : lengths ≡ true → leaves lengths words made ≡ stated made
  unfolding leaves
  leaves_open z = rw z

  pub leaves_shut : lengths ≡ false → leaves lengths words made ≡ record { words = words; outcome = wrong_length }
  unfolding leaves
  leaves_shut z = rw z

module _ (most : ℕ) (words : List ℕ) (ok : right_length most words ≡ true) where
  abbrev room : ℕ
  room = room_of_words words

  pub bytes_below : (bytes : List ℕ) (first : ℕ) (c : Cause) → (begun room (read_table room bytes) first).answer ≡ refused (refusal_of c) → Below most (refusal_of c).place
  bytes_below bytes first c e = below_most most words ok (refusal_of c) (start_names_below room bytes first (refusal_of c) e).place

  pub numbers_below : (numbers : List ℕ) (first : ℕ) (c : Cause) → (start room (numbers_table room numbers) first).answer ≡ refused (refusal_of c) → Below most (refusal_of c).place
  numbers_below numbers first c e = below_most most words ok (refusal_of c) (table_start_names_below room (numbers_table room numbers) first (refusal_of c) e).place

module _ (old-most most : ℕ) (old words : List ℕ) (ok : fits_into old-most most old words ≡ true) where
  pub carry_right : right_length most words ≡ true
  carry_right = (fit old-most most old words ok).right

  pub carry_below : (c : Cause) → (carry (old_room_of old) (room_of_words words) (old_state_of old)).answer ≡ refused (refusal_of c) → Below most (refusal_of c).place
  carry_below c e = below_most most words carry_right (refusal_of c) (carry_names_below (old_room_of old) (room_of_words words) (old_state_of old) (refusal_of c) e).1.place
