-- Clause 5.10, nothing is lost: at any time after a start, what was accepted for a place is what was granted to it and what waits there.
use Rattle.std.specs.Prelude.{◌≡◌, List, [], ◌∷◌, ℕ, ◌+◌, eqb}
use Rattle.lists.specs.Choices.{pick}
use Rattle.terms.specs.Table.{Table}
use Rattle.terms.specs.Answers.{Answer, accepted, granted, idle, refused}
use Rattle.terms.specs.State.{backlog, account_at}
use Rattle.rule.specs.Calls.{Call, post, slot}
use Rattle.guarantees.specs.Counts.{grants_to, Accepted, start_state, state_after, answers_from}

-- the transfers that a call with this answer brought to place p
unfoldable pub arrivals : ℕ → Call → Answer → ℕ
arrivals p slot a = 0
arrivals p (post i count) accepted = pick (eqb i p) count 0
arrivals p (post i count) (granted stamp q) = 0
arrivals p (post i count) (idle stamp) = 0
arrivals p (post i count) (refused r) = 0

-- clause 5.10's transfers accepted at place p, along a list of calls and their answers
unfoldable pub arrivals_to : ℕ → List Call → List Answer → ℕ
arrivals_to p [] answered = 0
arrivals_to p (c ∷ cs) [] = 0
arrivals_to p (c ∷ cs) (a ∷ answered) = arrivals p c a + arrivals_to p cs answered

-- clause 5.10
abbrev pub Conservation : Type 0
Conservation = (limit : ℕ) (t : Table) (first : ℕ) → Accepted limit t first → (calls : List Call) (p : ℕ)
    → arrivals_to p calls (answers_from limit (start_state limit t first) calls)
    ≡ grants_to p (answers_from limit (start_state limit t first) calls)
    + backlog (account_at p (state_after limit t first calls).accounts)
