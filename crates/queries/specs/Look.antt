-- Clause 11.3: a look into a state: the credit and the backlog of a place, and the slot number and N. `limit` is how many places there is
-- room for.
use Rattle.std.specs.Prelude.{ℕ, Result, Ok, Err}
use Rattle.terms.specs.declared.refusals.Refusal.{Refusal}
use Rattle.terms.specs.declared.refusals.Cause.{Cause}
use Rattle.terms.specs.declared.place.Account.{Account}
use Rattle.terms.specs.State.{State, account_at, sound, place_verdict}
use Rattle.terms.specs.Refusals.{faultless, refusal, refusal_of, gate, resolve}
use Rattle.terms.specs.declared.answers.Standing as code

-- what was asked for, or why it is not told
pub data Looked (X : Type 0) : Type 0 where
  looked : X → Looked X
  refused : Refusal → Looked X

-- the account of place p (clauses 11.3 and 13.13)
unfoldable pub account_query : ℕ → State → (place : ℕ) → Looked Account
account_query limit s p = resolve (place_verdict limit s p) (looked (account_at p s.accounts)) refused

-- where a line stands
pub record Standing : Type 0 where
  pub slot : ℕ
  pub count : ℕ

-- clauses 11.3 and 13.13
unfoldable pub standing : ℕ → State → Looked Standing
standing limit s = resolve (gate (refusal 23) (sound limit s) faultless) (looked (record { slot = s.slot.0; count = s.table.count })) refused

-- the code's answers in these values
abbrev pub account_answer_of : Result Account Cause → Looked Account
account_answer_of (Ok a) = looked a
account_answer_of (Err c) = refused (refusal_of c)

abbrev pub standing_answer_of : Result code.Standing Cause → Looked Standing
standing_answer_of (Ok s) = looked (record { slot = s.slot.0; count = s.count })
standing_answer_of (Err c) = refused (refusal_of c)
