-- What the lengths of an old state's words and of words that it fits into say; and its lists are as long as its room. Assumes nothing.
use Rattle.std.proofs.Common.{◌≡◌, ap, sym, ◌∙◌, true, List, ℕ, ◌≤◌, ◌<◌, arith, leb-true, le-leb, length, get_or}
use lib.ListN.{length-map, get_or-map}
use Rattle.lists.specs.Places.{places_from}
use Rattle.lists.proofs.Tests.{and_true, true_and}
use Rattle.terms.specs.Table.{no_requestor}
use Rattle.terms.specs.State.{no_account, Shaped}
use Rattle.layout.specs.Words.{room_of_words, right_length}
use Rattle.layout.proofs.Items.{rooms_behind, size_open, size_shut, length_places, at_place}
use Rattle.carrying.specs.Carry.{OldPlace, OldState, old_row, old_account, as_state}
use Rattle.carrying.specs.OldWords.{old_word_count, old_room_of, old_right_length, old_place_in, old_words_state}
use Rattle.carrying.specs.Fits.{fits_into}

-- what a right length of old words says
pub record OldRight (old-most : ℕ) (old : List ℕ) : Type 0 where
  pub long : length old ≡ old_word_count (old_room_of old)
  pub some : 1 ≤ old_room_of old
  pub room_most : old_room_of old ≤ old-most

pub old_right : (old-most : ℕ) (old : List ℕ) → old_right_length old-most old ≡ true → OldRight old-most old
unfolding old_right_length
old_right old-most old e =
    let (long, some, few) = size_open (length old) (old_word_count (old_room_of old)) (old_room_of old) old-most e in
    record { long = long; some = some; room_most = few }

-- words of a known room
pub old_room_is : (room : ℕ) (old : List ℕ) → length old ≡ old_word_count room → old_room_of old ≡ room
unfolding old_room_of
old_room_is room old long = rooms_behind 3 6 room (length old) (omega arith) long

-- what lengths that fit say
pub record Fit (old-most most : ℕ) (old words : List ℕ) : Type 0 where
  pub old_right : OldRight old-most old
  pub right : right_length most words ≡ true
  pub enough : old_room_of old ≤ room_of_words words

pub fit : (old-most most : ℕ) (old words : List ℕ) → fits_into old-most most old words ≡ true → Fit old-most most old words
unfolding fits_into
fit old-most most old words e =
    let a = and_true (old_right_length old-most old) _ e in
    let b = and_true (right_length most words) _ a.1 in
    record { old_right = old_right old-most old a.0; right = b.0; enough = leb-true (old_room_of old) (room_of_words words) b.1 }

-- and the other way round
pub fitting : (old-most most room : ℕ) (old words : List ℕ) → length old ≡ old_word_count room → 1 ≤ room → room ≤ old-most → right_length most words ≡ true → room ≤ room_of_words words
    → fits_into old-most most old words ≡ true
unfolding fits_into old_right_length
fitting old-most most room old words long some few ok enough =
    rw (old_room_is room old long) (true_and _ _
    (size_shut (length old) (old_word_count room) room old-most long some few)
    (true_and (right_length most words) _ ok (le-leb room (room_of_words words) enough)))

-- ---- the state of today that an old one is

pub as_state_shaped : (limit : ℕ) (o : OldState) → length o.places ≡ limit → Shaped limit (as_state o)
as_state_shaped limit o many = record { rows = length-map o.places old_row ∙ many; accounts = length-map o.places old_account ∙ many }

module _ (room : ℕ) (old : List ℕ) where
  pub old_many : length (old_words_state room old).places ≡ room
  unfolding old_words_state
  old_many = length_places (old_place_in old) 0 room

  pub old_shaped : Shaped room (as_state (old_words_state room old))
  old_shaped = as_state_shaped room (old_words_state room old) old_many

  -- what it has at a place
  abbrev no_place : OldPlace
  no_place = record { rate = 0; burst = 0; need = 0; within = 0; credit = 0; backlog = 0 }

  pub old_row_at : (p : ℕ) → p < room → old_row (old_place_in old p) ≡ get_or (as_state (old_words_state room old)).table.requestors p no_requestor
  unfolding old_words_state
  old_row_at p h = ap old_row (sym (at_place (old_place_in old) no_place room p h)) ∙ sym (get_or-map old_row (places_from (old_place_in old) 0 room) p no_place)

  pub old_account_at : (p : ℕ) → p < room → old_account (old_place_in old p) ≡ get_or (as_state (old_words_state room old)).accounts p no_account
  unfolding old_words_state
  old_account_at p h = ap old_account (sym (at_place (old_place_in old) no_place room p h)) ∙ sym (get_or-map old_account (places_from (old_place_in old) 0 room) p no_place)
