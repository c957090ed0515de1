-- A call that changes a state, on lent words. The words at exit are read as the state that it comes to, so they are that state's words.
-- Assumes nothing.
use Rattle.std.proofs.Common.{◌≡◌, refl, ap, sym, true, ◌&&◌, List, [], ◌∷◌, ℕ, eqb, ◌<◌, arith, length, take, length-take, Option, Some, None, Ok}
use Rattle.lists.specs.Runs.{Result}
use Rattle.lists.proofs.Tests.{and_true}
use Rattle.terms.specs.declared.refusals.Cause.{Cause}
use Rattle.terms.specs.declared.answers.Slot.{Slot}
use Rattle.terms.specs.State.{State, sound}
use Rattle.terms.specs.Refusals.{Verdict, faultless, fault, refusal, refusal_of, gate}
use Rattle.terms.specs.Answers.{Answer, granted, refused, slot_answer, slot_answer_of}
use Rattle.terms.proofs.Checks.{gate_open}
use Rattle.terms.proofs.Sound.{sound_open}
use Rattle.rule.specs.Calls.{Call, slot, grant_of, done, rule_verdict, outcome, called}
use Rattle.rule.specs.Log.{Outcome, run}
use Rattle.rule.proofs.Kept.{fair_table}
use Rattle.rule.proofs.Search.{first_found}
use Rattle.layout.specs.Words.{room_of_words, right_length, state_words, state_of}
use Rattle.layout.proofs.RoundTrip.{words_shaped, state_written_back}
use Rattle.layout.proofs.Stores.{right_stands}
use Rattle.outcomes.specs.Outcomes.{place_code, answer_code}
use Rattle.outcomes.specs.Places.{Below}
use Rattle.outcomes.proofs.Places.{calls_name_below, runs_name_below}
use Rattle.justrave.specs.Exported.{Stated, stated, slot_words, Slotted, slot_stated, slotted, Ran, run_stated}
use Rattle.justrave.proofs.Lengths.{lent_room, on_open, below_most}

module _ (most : ℕ) (words left : List ℕ) (ok : right_length most words ≡ true) (long : length left ≡ length words) where
  -- words that are read as a state are its words
  pub words_are : left ≡ state_words (state_of left)
  words_are = sym (state_written_back most left (right_stands most words left long ok))

  pub stated_so : (made : Result State Answer) → made.state ≡ state_of left → ◌≡◌ {A = Stated} (stated made) (record { words = left; outcome = answer_code made.answer })
  stated_so made e = rw (e, ← words_are)

  pub slot_so : (old : List ℕ) (made : Result State Answer) → made.state ≡ state_of left
      → ◌≡◌ {A = Slotted} (slot_stated old made) (record { words = left; answer = slot_words old made.answer; outcome = answer_code made.answer })
  slot_so old made e = rw (e, ← words_are)

  pub run_so : (made : Outcome) → made.state ≡ state_of left → ◌≡◌ {A = Ran} (run_stated made) (record { words = left; log = made.log; outcome = answer_code made.answer })
  run_so made e = rw (e, ← words_are)

-- that place is one of the table's
granted_there : (s : State) (p : ℕ) → grant_of s ≡ Some p → p < s.table.count
unfolding grant_of
granted_there s p e = omega (arith, (first_found s.table.denominator p (take s.table.count s.table.requestors) s.accounts e).0, length-take s.table.count s.table.requestors)

-- the place of a slot's answer is the one granted
granted_by : (s : State) (v : Verdict) (stamp p : ℕ) → (outcome v s slot).answer ≡ granted stamp p → (v ≡ faultless) × (grant_of s ≡ Some p)
unfolding done
granted_by s faultless stamp p e = (refl, by (grant_of s) e)
  where
    by : (g : Option ℕ) → slot_answer s.slot.0 g ≡ granted stamp p → g ≡ Some p
    by None f = absurd cc
    by (Some q) f = let same : q ≡ p = cc in ap Some same
granted_by s (fault r) stamp p e = absurd cc

module _ (most : ℕ) (words : List ℕ) (ok : right_length most words ≡ true) where
  abbrev room : ℕ
  room = room_of_words words

  pub called_below : (call : Call) (c : Cause) → (called room (state_of words) call).answer ≡ refused (refusal_of c) → Below most (refusal_of c).place
  called_below call c e = below_most most words ok (refusal_of c) (calls_name_below room (state_of words) call (refusal_of c) e).place

  pub run_below : (old : List ℕ) (c : Cause) → (run room (state_of words) old).answer ≡ refused (refusal_of c) → Below most (refusal_of c).place
  run_below old c e = below_most most words ok (refusal_of c) (runs_name_below room (state_of words) old (refusal_of c) e).place

  -- the place that a slot grants is one that there is room for
  pub granted_below : (stamp : ℕ) (g : Option ℕ) → (called room (state_of words) slot).answer ≡ slot_answer stamp g → Below most g
  unfolding called
  granted_below stamp None e = tt
  granted_below stamp (Some p) e =
      let s = state_of words in
      let by = granted_by s (gate (refusal 23) (sound room s) (rule_verdict s slot)) stamp p e in
      let passes = (gate_open (refusal 23) (sound room s) (rule_verdict s slot) by.0).0 in
      omega (arith, granted_there s p by.1, (fair_table room s (sound_open room s (words_shaped room words) passes)).count_most, lent_room most words ok)

-- a slot's answer, of two words: its stamp, and the place granted + 1 or 0
pub slot_told : (most : ℕ) (words old left : List ℕ) → (right_length most words && eqb (length old) 2) ≡ true → length left ≡ length words
    → (s : Slot) → ◌≡◌ {A = Result State Answer} (record { state = state_of left; answer = slot_answer_of (Ok s) }) (called (room_of_words words) (state_of words) slot)
    → (place : ℕ) → place ≡ place_code s.granted → (after : List ℕ) → after ≡ s.stamp.0 ∷ place ∷ []
    → ◌≡◌ {A = Slotted} (record { words = left; answer = after; outcome = 0 }) (slotted most words old)
unfolding slotted
slot_told most words old left both long s e place f after put =
    rw (on_open most words (eqb (length old) 2) _ _ both, ← e, ← words_are most words left (and_true (right_length most words) _ both).0 long, put, f) (by s.granted)
  where
    by : (g : Option ℕ) → ◌≡◌ {A = Slotted} (record { words = left; answer = s.stamp.0 ∷ place_code g ∷ []; outcome = 0 })
        (record { words = left; answer = slot_words old (slot_answer s.stamp.0 g); outcome = answer_code (slot_answer s.stamp.0 g) })
    by None = refl
    by (Some p) = refl
