-- The carrying over of an old unit's words: 255, 23, what is cleared, and that each call from there comes to the same. Assumes nothing.
use Rattle.std.proofs.Common.{◌≡◌, refl, ap, sym, ◌∙◌, true, List, ℕ, ◌+◌, ◌-◌, ◌≤◌, arith}
use Rattle.lists.specs.Runs.{Result}
use Rattle.lists.proofs.Tests.{cases}
use Rattle.terms.specs.declared.refusals.Refusal.{Refusal}
use Rattle.terms.specs.State.{State, sound}
use Rattle.terms.specs.Refusals.{Verdict, faultless, fault, gate, resolve}
use Rattle.terms.specs.Answers.{Answer, accepted, refused}
use Rattle.terms.specs.Start.{no_state, turned_down}
use Rattle.terms.specs.Longer.{longer}
use Rattle.carrying.specs.Carry.{OldState, old_row, old_account, as_state, carry_verdict, carry}
use Rattle.layout.specs.Words.{room_of_words, right_length, state_words, words_state, state_of}
use Rattle.layout.proofs.Items.{map_places}
use Rattle.layout.proofs.RoundTrip.{right, right_of, words_shaped, state_written_back}
use Rattle.carrying.specs.OldWords.{old_room_of, old_place_in, old_words_state, old_state_of}
use Rattle.carrying.specs.Fits.{fits_into}
use Rattle.carrying.proofs.Fits.{Fit, fit}
use Rattle.outcomes.specs.Outcomes.{refusal_code, answer_code, wrong_length}
use Rattle.outcomes.specs.Places.{AmongRefusals, of_any_call}
use Rattle.outcomes.proofs.Places.{state_any, carry_names_below}
use Rattle.justrave.specs.Exported.{leaves, carried_over}
use Rattle.on_words.specs.Room.{more}
use Rattle.on_words.specs.Carried.{CarryLengths, CarryBroken, CarryRefused, CarryAccepted, CarriedInARow}
use Rattle.on_words.proofs.Claims.{Ends, went, turned, clears, leaves_255}
use Rattle.on_words.proofs.Longer.{longer_words}
use Rattle.on_words.proofs.Room.{any_room, any_room_in_a_row}

carry_ends : (old new : ℕ) (o : OldState) → Ends new (answer_code (carry old new o).answer) ((carry old new o).state ≡ no_state new)
unfolding carry
carry_ends old new o = by (carry_verdict old o) (λ r e. state_any (carry_names_below old new o r e).1)
  where
    made : Verdict → Result State Answer
    made v = resolve v (record { state = longer (new - old) (as_state o); answer = accepted }) (turned_down new)

    by : (v : Verdict) → ((r : Refusal) → (made v).answer ≡ refused r → AmongRefusals of_any_call new r) → Ends new (answer_code (made v).answer) ((made v).state ≡ no_state new)
    by faultless t = went refl
    by (fault r) t = turned r (t r refl) refl refl

pub carry_lengths : CarryLengths
unfolding carried_over
carry_lengths old-most most old words = leaves_255 most words (fits_into old-most most old words) _ (carry_ends (old_room_of old) (room_of_words words) (old_state_of old))

pub carry_refused : CarryRefused
unfolding carried_over
carry_refused old-most most old words =
    clears most words (fits_into old-most most old words) _ (carry_ends (old_room_of old) (room_of_words words) (old_state_of old)) (λ all. (fit old-most most old words all).right)

pub carry_broken : CarryBroken
unfolding carried_over leaves carry gate refusal_code
carry_broken old-most most old words all broken = rw (all, broken)

-- ---- accepted

-- an old state's words are read as today's
same_state : (old : List ℕ) → as_state (old_state_of old) ≡ state_of old
unfolding old_words_state words_state old_room_of room_of_words
same_state old = rw (map_places (old_place_in old) old_row 0 (room_of_words old), map_places (old_place_in old) old_account 0 (room_of_words old))

same_rooms : (old : List ℕ) → old_room_of old ≡ room_of_words old
unfolding old_room_of room_of_words
same_rooms old = refl

module _ (old-most most : ℕ) (old words : List ℕ) (all : fits_into old-most most old words ≡ true) (ok : sound (old_room_of old) (as_state (old_state_of old)) ≡ true) where
  abbrev extra : ℕ
  extra = room_of_words words - old_room_of old

  fits : Fit old-most most old words
  fits = fit old-most most old words all

  old_right : right_length old-most old ≡ true
  unfolding old_room_of room_of_words
  old_right = let v = fits.old_right in right_of old-most (room_of_words old) old v.long v.some v.room_most

  room_there : room_of_words old + extra ≤ most
  room_there = omega (arith, same_rooms old, fits.enough, (right most words fits.right).room_most)

  made : carry (old_room_of old) (room_of_words words) (old_state_of old) ≡ record { state = longer extra (as_state (old_state_of old)); answer = accepted }
  unfolding carry gate
  made = rw ok

  whole : carried_over old-most most old words ≡ record { words = more extra old; outcome = 0 }
  unfolding carried_over leaves
  whole =
      let laid = ap (λ s. state_words (longer extra s)) (same_state old) ∙ longer_words (room_of_words old) extra (state_of old) (words_shaped (room_of_words old) old)
      ∙ ap (more extra) (state_written_back old-most old old_right) in
      rw (all, made) (ap (λ w. record { words = w; outcome = 0 }) laid)

pub carry_accepted : CarryAccepted
carry_accepted old-most most old words all ok =
    rw (whole old-most most old words all ok) (refl, refl, any_room old-most most (room_of_words words - old_room_of old) old (old_right old-most most old words all ok) (room_there old-most most old words all ok))

-- ---- in a row

module _ (old-most most : ℕ) (old words : List ℕ) (e : (carried_over old-most most old words).outcome ≡ 0) where
  fitted : fits_into old-most most old words ≡ true
  unfolding carried_over leaves
  fitted = cases (fits_into old-most most old words) (λ q. q) (λ q. absurd (not_255 (rw q at e)))
    where
      not_255 : wrong_length ≡ 0 → ⊥
      not_255 f = omega arith

  held : sound (old_room_of old) (as_state (old_state_of old)) ≡ true
  held = cases (sound (old_room_of old) (as_state (old_state_of old))) (λ q. q) (λ q. absurd (not_23 (sym (carry_broken old-most most old words fitted q) ∙ e)))
    where
      not_23 : ◌≡◌ {A = ℕ} 23 0 → ⊥
      not_23 f = omega arith

pub carried_in_a_row : CarriedInARow
carried_in_a_row old-most most old words answer calls e =
    let all = fitted old-most most old words e in
    let ok = held old-most most old words e in
    rw (whole old-most most old words all ok)
    (any_room_in_a_row old-most most (room_of_words words - old_room_of old) (record { words = old; answer = answer }) calls (old_right old-most most old words all ok) (room_there old-most most old words all ok))
