-- Clause 6.3: how far a place is ahead of its rate over a log, or below 0 how far behind: D for each byte that is the place, less its rate
-- for each byte of the log.
use Rattle.std.specs.Prelude.{List, ℕ, ◌*◌, ℤ, pos, ◌-ℤ◌, length, Result, Ok, Err}
use Rattle.terms.specs.declared.refusals.Refusal.{Refusal}
use Rattle.terms.specs.declared.refusals.Cause.{Cause}
use Rattle.terms.specs.Table.{Table, requestor_at}
use Rattle.terms.specs.State.{State, place_verdict}
use Rattle.terms.specs.Refusals.{Verdict, refusal_of, then, resolve}
use Rattle.terms.specs.Input.{input_verdict}
use Rattle.lead_parts.specs.Counts.{bytes_equal}

-- the lead of place p with rate n (clause 6.3)
unfoldable pub lead_of : (d n p : ℕ) → List ℕ → ℤ
lead_of d n p log = pos (d * bytes_equal p log) -ℤ pos (n * length log)

-- the lead of place p in a table
abbrev pub lead_in : Table → ℕ → List ℕ → ℤ
lead_in t p log = lead_of t.denominator (requestor_at p t.requestors).rate p log

pub data LeadAnswer : Type 0 where
  lead : ℤ → LeadAnswer
  refused : Refusal → LeadAnswer

-- 23, 11, 13 (clause 13.10)
unfoldable pub lead_verdict : ℕ → State → (place bytes : ℕ) → Verdict
lead_verdict limit s p bytes = then (place_verdict limit s p) (input_verdict bytes)

-- `limit` is how many places there is room for
unfoldable pub lead_query : ℕ → State → (place : ℕ) → List ℕ → LeadAnswer
lead_query limit s p log =
    resolve (lead_verdict limit s p (length log))
    (lead (lead_in s.table p log))
    refused

-- the code's answer in these values
abbrev pub lead_answer_of : Result ℤ Cause → LeadAnswer
lead_answer_of (Ok x) = lead x
lead_answer_of (Err c) = refused (refusal_of c)
