-- What a call answers. A slot has three ends (clause 5.6): a place is granted, nobody is, or the call is refused.
use Rattle.std.specs.Prelude.{ℕ, Option, Some, None, Result, Ok, Err}
use Rattle.terms.specs.declared.refusals.Refusal.{Refusal}
use Rattle.terms.specs.declared.refusals.Cause.{Cause}
use Rattle.terms.specs.declared.answers.Slot.{Slot}
use Rattle.terms.specs.Refusals.{refusal_of}

pub data Answer : Type 0 where
  -- a start, a carrying over, a post, a run, a reading or an ordering was carried out
  accepted : Answer
  -- a slot's stamp and the place granted
  granted : (stamp place : ℕ) → Answer
  -- an idle slot's stamp
  idle : (stamp : ℕ) → Answer
  -- the call was not carried out, for this reason
  refused : Refusal → Answer

-- a refusal turns down what would go on after any other answer
abbrev pub unless : {X : Type 0} → Answer → (Refusal → X) → X → X
unless accepted turned_down goes_on = goes_on
unless (granted stamp p) turned_down goes_on = goes_on
unless (idle stamp) turned_down goes_on = goes_on
unless (refused r) turned_down goes_on = turned_down r

-- the code's answers in these values: of a call that has nothing to tell but that it was carried out, and of a slot (clause 5.6)
abbrev pub answer_of : Result Unit Cause → Answer
answer_of (Ok _) = accepted
answer_of (Err c) = refused (refusal_of c)

abbrev pub slot_answer : (stamp : ℕ) → Option ℕ → Answer
slot_answer stamp None = idle stamp
slot_answer stamp (Some p) = granted stamp p

abbrev pub slot_answer_of : Result Slot Cause → Answer
slot_answer_of (Ok s) = slot_answer s.stamp.0 s.granted
slot_answer_of (Err c) = refused (refusal_of c)
