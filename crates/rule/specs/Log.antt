-- Clause 6.1: a run over a lent log: a slot for each of its bytes, and into each byte the place that was granted, or 255 where nobody was.
-- It is told slot by slot, each with the part of the log that is still to be written; without a byte there is no slot.
use Rattle.std.specs.Prelude.{List, [], ◌∷◌, ℕ, zero, suc, ◌+◌, leb, length, Option, Some, None}
use Rattle.terms.specs.State.{State, sound}
use Rattle.terms.specs.Limits.{max_slot}
use Rattle.terms.specs.Refusals.{Verdict, faultless, refusal, gate, then, resolve}
use Rattle.terms.specs.Answers.{Answer, accepted, refused}
use Rattle.terms.specs.Input.{input_verdict}
use Rattle.rule.specs.Calls.{grant_of, advanced}

-- the byte of a slot
abbrev pub grant_byte : Option ℕ → ℕ
grant_byte None = 255
grant_byte (Some p) = p

-- the state after so many slots, and their log (clause 6.1)
unfoldable pub slots_state : ℕ → State → State
slots_state zero s = s
slots_state (suc slots) s = slots_state slots (advanced s (grant_of s))

unfoldable pub slots_log : ℕ → State → List ℕ
slots_log zero s = []
slots_log (suc slots) s = grant_byte (grant_of s) ∷ slots_log slots (advanced s (grant_of s))

-- clause 12.22 of a run: as many slots as the log has bytes must still have numbers
unfoldable pub slots_verdict : (first slots : ℕ) → Verdict
slots_verdict first slots = gate (refusal 22) (leb (first + slots) max_slot) faultless

-- 23, 13, 22 (clause 13.9)
unfoldable pub run_verdict : ℕ → State → (bytes : ℕ) → Verdict
run_verdict limit s bytes =
    gate (refusal 23) (sound limit s)
    (then (input_verdict bytes) (slots_verdict s.slot.0 bytes))

-- what a run comes to: the state, the answer, and the lent log afterwards
pub record Outcome : Type 0 where
  pub state : State
  pub answer : Answer
  pub log : List ℕ

-- clause 6.1; `limit` is how many places there is room for
unfoldable pub run : ℕ → State → (old : List ℕ) → Outcome
run limit s old =
    resolve (run_verdict limit s (length old))
    (record { state = slots_state (length old) s; answer = accepted; log = slots_log (length old) s })
    (λ r. record { state = s; answer = refused r; log = old })
