-- What words that passed test 23 leave room for, what a slot makes of them, and that they pass it again. Assumes nothing.
use Rattle.std.proofs.Common.{◌≡◌, refl, ap, sym, ◌∙◌, true, List, ℕ, ◌+◌, ◌≤◌, ◌<◌, ◌^◌, arith, length, get_or, get_or-take, Option}
use Rattle.terms.specs.State.{State, credit, account_at, sound}
use Rattle.terms.specs.Limits.{max_places, max_slot}
use Rattle.terms.specs.Table.{rate, no_requestor, requestor_at}
use Rattle.terms.proofs.Sound.{Sound, sound_open, sound_shut, sound_fair, row_at, credit_most}
use Rattle.rule.specs.Calls.{grant_of, advanced}
use Rattle.rule.proofs.Kept.{advanced_sound}
use Rattle.layout.specs.Words.{word_count, room_of_words, right_length, account_in, words_state, state_of, put_slot_number, with_slot}
use Rattle.layout.proofs.RoundTrip.{Right, right, words_shaped}
use Rattle.layout.proofs.RoundTrip as state
use Rattle.layout.proofs.Stores.{put_slot, put_slot_length, same_room, right_stands}
use Rattle.walk.specs.Walk.{Roomy, slot_among, grant_among}
use Rattle.moves.specs.Moves.{Ready}

-- a credit and a rate of a sound state add up within 64 bits, for any room that is not above the largest N
sum_fits : (room : ℕ) (s : State) → room ≤ max_places → Sound room s → (p : ℕ) → p < s.table.count
    → credit (account_at p s.accounts) + rate (requestor_at p s.table.requestors) < 2 ^ 64
sum_fits room s few v p h =
    let f = sound_fair room s v in
    let row = get_or-take s.table.count s.table.requestors p no_requestor h in
    let most = rw row at (row_at room s.table v.rows f p h).rate_most in
    omega (arith, credit_most room s v p, most, f.denominator_most)

module _ (words : List ℕ) (ok : right_length max_places words ≡ true) where
  abbrev room : ℕ
  room = room_of_words words

  pub length_is : Right max_places words
  length_is = right max_places words ok

  pub head_there : 3 ≤ length words
  head_there = omega (arith, length_is.long)

  module _ (passes : sound room (state_of words) ≡ true) where
    pub held : Sound room (state_of words)
    held = sound_open room (state_of words) (words_shaped room words) passes

    pub count_most : (state_of words).table.count ≤ room
    count_most = (sound_fair room (state_of words) held).count_most

    pub place_there : (p : ℕ) → p < (state_of words).table.count → word_count (p + 1) ≤ length words
    place_there p h = omega (arith, length_is.long, count_most)

    pub place_account : (p : ℕ) → p < (state_of words).table.count → account_in words p ≡ account_at p (state_of words).accounts
    place_account p h = sym (state.account_at_lem room words p (omega (arith, count_most)))

    pub roomy : Roomy words (state_of words).table.count
    roomy = record {
      long = length_is.long;
      most = count_most;
      sums = λ p h.
          let row = ap rate (state.row_at room words p (omega (arith, count_most))) in
          let account = ap credit (place_account p h) in
          omega (arith, row, account, sum_fits room (state_of words) length_is.room_most held p h);
    }

-- the head of the state that the words are
pub the_denominator : (words : List ℕ) → (state_of words).table.denominator ≡ get_or words 0 0
unfolding words_state
the_denominator words = refl

pub the_count : (words : List ℕ) → (state_of words).table.count ≡ get_or words 1 0
unfolding words_state
the_count words = refl

pub the_slot : (words : List ℕ) → (state_of words).slot.0 ≡ get_or words 2 0
unfolding words_state
the_slot words = refl

-- words that passed test 23, with the D and the N that they hold
pub ready : (words : List ℕ) → right_length max_places words ≡ true → sound (room_of_words words) (state_of words) ≡ true → Ready words (get_or words 0 0) (get_or words 1 0)
ready words ok passes = record { right = ok; sound = passes; denominator = sym (the_denominator words); count = sym (the_count words) }

-- their slot number has numbers behind it
pub slot_most : (words : List ℕ) → right_length max_places words ≡ true → sound (room_of_words words) (state_of words) ≡ true → get_or words 2 0 ≤ max_slot
slot_most words ok passes = omega (arith, (held words ok passes).slot_most, the_slot words)

-- a slot: the accounts move on, and then the slot number
module _ (words : List ℕ) (d n : ℕ) (r : Ready words d n) where
  pub ready_there : 3 ≤ length words
  ready_there = head_there words r.right

  pub ready_roomy : Roomy words n
  ready_roomy = rw r.count (roomy words r.right r.sound)

  pub ready_below : get_or words 2 0 ≤ max_slot
  ready_below = slot_most words r.right r.sound

  pub ready_grant : grant_among d n (state_of words) ≡ grant_of (state_of words)
  unfolding grant_of
  ready_grant = rw (r.denominator, r.count)

  pub slot_done : (left : List ℕ) (g : Option ℕ) → length left ≡ length words → state_of left ≡ slot_among d n g (state_of words) → g ≡ grant_among d n (state_of words)
      → state_of (put_slot_number left (get_or words 2 0 + 1)) ≡ advanced (state_of words) (grant_of (state_of words))
  unfolding advanced
  slot_done left g long e f =
      let at = get_or words 2 0 + 1 in
      let there : 3 ≤ length left = omega (arith, ready_there) in
      let same : room_of_words (put_slot_number left at) ≡ room_of_words left = same_room left (put_slot_number left at) (put_slot_length left at) in
      let stored : state_of (put_slot_number left at) ≡ with_slot (state_of left) at = ap (λ k. words_state k (put_slot_number left at)) same ∙ put_slot left at (room_of_words left) there in
      stored ∙ rw (e, f ∙ ready_grant, ← the_slot words, r.denominator, r.count)

pub ruleset slot_steps = (ready_there, ready_roomy, ready_below, ready_grant, slot_done)

-- and what it leaves is ready again
pub ready_next : (words left : List ℕ) (d n : ℕ) → Ready words d n → (state_of words).slot.0 < max_slot → length left ≡ length words
    → state_of left ≡ advanced (state_of words) (grant_of (state_of words)) → Ready left d n
unfolding advanced
ready_next words left d n r below long e =
    let same : room_of_words left ≡ room_of_words words = same_room words left long in
    let next = advanced (state_of words) (grant_of (state_of words)) in
    let kept = advanced_sound (room_of_words words) (state_of words) (held words r.right r.sound) below in
    record {
      right = right_stands max_places words left long r.right;
      sound = ap (sound (room_of_words left)) e ∙ ap (λ k. sound k next) same ∙ sound_shut (room_of_words words) next kept;
      denominator = r.denominator ∙ sym (ap (λ s. s.table.denominator) e);
      count = r.count ∙ sym (ap (λ s. s.table.count) e);
    }
