-- A slot and a run on words: what each way out of a slot comes to, and the slots of a run that are done. Assumes nothing.
use Rattle.std.proofs.Common.{◌≡◌, refl, ap, sym, true, false, List, [], ◌∷◌, ℕ, ◌+◌, ◌-◌, ◌≤◌, ◌<◌, arith, le-leb, length, get_or, take, drop, Option}
use borrow.Author.Tests.{lt-leb}
use borrow.Rule.Slice.PartMut.{put_mid}
use Rattle.lists.specs.Runs.{Result}
use Rattle.lists.specs.Overwriting.{written_over}
use Rattle.terms.specs.State.{State, sound}
use Rattle.terms.specs.Limits.{max_input, max_slot}
use Rattle.terms.specs.Refusals.{refusal, gate, then}
use Rattle.terms.specs.Input.{input_verdict}
use Rattle.terms.specs.Answers.{Answer, accepted, refused, slot_answer}
use Rattle.rule.specs.Calls.{slot, grant_of, advanced, done, called}
use Rattle.rule.proofs.Verdicts.{called_unsound, called_refused, called_done, slot_at_limit, slot_below_limit}
use Rattle.rule.specs.Log.{grant_byte, slots_state, slots_log, slots_verdict, Outcome, run}
use Rattle.rule.proofs.Logs.{Along, first_byte, along_none, along_length, along_next, along_all, slots_sound, byte_fits, run_unsound, run_refused, run_done}
use Rattle.layout.specs.Words.{room_of_words, state_of}
use Rattle.moves.specs.Moves.{Ready}
use Rattle.moves.proofs.Readiness.{length_is, head_there, held, the_slot, ready, slot_most, ready_next}

-- ---- one slot

module _ (words : List ℕ) where
  abbrev s : State
  s = state_of words

  abbrev whole : Result State Answer
  whole = called (room_of_words words) s slot

  abbrev turned : ℕ → Result State Answer
  turned number = record { state = s; answer = refused (refusal number) }

  pub slot_23 : sound (room_of_words words) s ≡ false → turned 23 ≡ whole
  slot_23 e = sym (called_unsound (room_of_words words) s slot e)

  module _ (passes : sound (room_of_words words) s ≡ true) where
    pub slot_22 : max_slot ≤ get_or words 2 0 → turned 22 ≡ whole
    slot_22 h = sym (called_refused (room_of_words words) s slot passes _ (slot_at_limit s (omega (arith, the_slot words))))

    pub slot_done : get_or words 2 0 < max_slot → (left : List ℕ) (g : Option ℕ) → state_of left ≡ advanced s (grant_of s) → g ≡ grant_of s
        → ◌≡◌ {A = Result State Answer} (record { state = state_of left; answer = slot_answer (get_or words 2 0) g }) whole
    unfolding done
    slot_done below left g next e =
        rw (next, ← the_slot words, e) (sym (called_done (room_of_words words) s slot passes (slot_below_limit s (omega (arith, the_slot words)))))

pub ruleset slot_ends = (head_there, ready, slot_23, slot_done)

-- ---- a run

-- the place that a slot grants has a byte of its own
pub grant_fits : (words : List ℕ) (d n : ℕ) → Ready words d n → (g : Option ℕ) → g ≡ grant_of (state_of words) → grant_byte g < 256
grant_fits words d n r g e =
    byte_fits (state_of words) g (room_of_words words) (held words r.right r.sound) (omega (arith, (length_is words r.right).room_most)) e

-- the first k slots are done, and the words are ready for the next
pub record Going (old : List ℕ) (d n : ℕ) (old-log words log : List ℕ) (k : ℕ) : Type 0 where
  pub ready : Ready words d n
  pub along : Along (state_of old) old-log log (state_of words) k

pub going_none : (old : List ℕ) (d n : ℕ) (log : List ℕ) → Ready old d n → Going old d n log old log 0
going_none old d n log r = record { ready = r; along = along_none (state_of old) log }

module _ (old : List ℕ) (d n : ℕ) (old-log : List ℕ) (r : Ready old d n) (numbers : (state_of old).slot.0 + length old-log ≤ max_slot)
    (words log : List ℕ) (k : ℕ) (v : Going old d n old-log words log k) where
  pub going_length : length log ≡ length old-log
  going_length = along_length v.along

  module _ (h : k < length log) where
    below : (state_of words).slot.0 < max_slot
    below =
        let so_far = slots_sound (room_of_words old) k (state_of old) (held old r.right r.sound) (omega (arith, going_length)) in
        omega (arith, ap (λ x. x.slot.0) v.along.now, so_far.1, going_length)

    pub going_next : (next part : List ℕ) → length next ≡ length words → state_of next ≡ advanced (state_of words) (grant_of (state_of words))
        → part ≡ written_over (grant_byte (grant_of (state_of words)) ∷ []) (take (length log - k) (drop k log))
        → Going old d n old-log next (put_mid k (length log - k) log part) (k + 1)
    going_next next part long e f = record {
      ready = ready_next words next d n v.ready below long e;
      along = along_next v.along h (state_of next) part e f;
    }

  pub going_all : length log ≤ k → (state_of words ≡ slots_state (length old-log) (state_of old)) × (log ≡ slots_log (length old-log) (state_of old))
  going_all h = along_all v.along h

-- 23, 13, 22, and then the run
module _ (words log : List ℕ) where
  abbrev all : Outcome
  all = run (room_of_words words) (state_of words) log

  abbrev run_turned : ℕ → Outcome
  run_turned number = record { state = state_of words; answer = refused (refusal number); log = log }

  pub run_23 : sound (room_of_words words) (state_of words) ≡ false → run_turned 23 ≡ all
  run_23 e = run_unsound (room_of_words words) (state_of words) log _ _ e refl refl

  module _ (passes : sound (room_of_words words) (state_of words) ≡ true) where
    pub run_13 : max_input < length log → run_turned 13 ≡ all
    unfolding input_verdict gate then
    run_13 h = run_refused (room_of_words words) (state_of words) log passes _ _ _ (rw (lt-leb (length log) max_input h)) refl refl

    module _ (few : length log ≤ max_input) where
      pub run_22 : max_slot < get_or words 2 0 + length log → run_turned 22 ≡ all
      unfolding input_verdict slots_verdict gate then
      run_22 h =
          let over : max_slot < (state_of words).slot.0 + length log = omega (arith, the_slot words) in
          run_refused (room_of_words words) (state_of words) log passes _ _ _ (rw (le-leb (length log) max_input few, lt-leb _ _ over)) refl refl

      pub run_all : get_or words 2 0 + length log ≤ max_slot → (left bytes : List ℕ)
          → state_of left ≡ slots_state (length log) (state_of words) → bytes ≡ slots_log (length log) (state_of words)
          → ◌≡◌ {A = Outcome} (record { state = state_of left; answer = accepted; log = bytes }) all
      unfolding input_verdict slots_verdict gate then
      run_all h left bytes e f =
          let within : (state_of words).slot.0 + length log ≤ max_slot = omega (arith, the_slot words) in
          run_done (room_of_words words) (state_of words) log passes _ _ (rw (le-leb (length log) max_input few, le-leb _ _ within)) e f

pub ruleset log_steps = (grant_fits, first_byte)

pub ruleset run_steps = (going_all)

pub ruleset run_ends = (head_there, slot_most, the_slot, ready, run_23, run_13, run_22, run_all)
