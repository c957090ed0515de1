-- The service bounds (clauses 10.1 to 10.4), one claim about any list of posts and slots from an accepted start, whatever their order,
-- places and counts, those that are refused among them. A stretch of it is given by two lists: `before` leads to it, and `inside` holds
-- its slots, with the posts and refused calls that stand between them. A place enters it with the credit that it has where `inside`
-- begins, since no post changes a credit.
use Rattle.std.specs.Prelude.{◌≡◌, List, ℕ, ◌+◌, ◌*◌, ◌≤◌, ◌<◌, take}
use Rattle.lists.specs.Sums.{total}
use Rattle.lists.specs.Runs
use Rattle.terms.specs.declared.place.Requestor.{Requestor}
use Rattle.terms.specs.Table.{Table, rate, burst, requestors_of, requestor_at}
use Rattle.terms.specs.State.{State, credit, account_at}
use Rattle.terms.specs.Figures.{bursts_above, rate_left}
use Rattle.terms.specs.Start.{opening}
use Rattle.rule.specs.Calls.{Call, ruled, called}
use Rattle.guarantees.specs.Counts.{slots_in, grants_to, grants_to_first, Waits, Accepted, start_state, state_after, answers_from}

-- Clause 10.4: what the first k places get in m slots, D for each grant, is covered by their bursts and m times their rates. If all m slots
-- go to the places above p, it says with k = p that R × m ≤ B, the wait of clause 7.2.
abbrev pub Ceiling : ℕ → List Requestor → ℕ → ℕ → ℕ → Type 0
Ceiling d rs k m g = d * g ≤ total burst (take k rs) + m * total rate (take k rs)

-- clause 10.3: what place p gets in m slots is its share of them less the wait B / R, both sides times R × D and without a difference
abbrev pub Floor : ℕ → List Requestor → ℕ → ℕ → ℕ → Type 0
Floor d rs p m g = n * R * m ≤ R * d * g + n * B
  where
    n : ℕ
    n = (requestor_at p rs).rate

    R : ℕ
    R = rate_left d p rs

    B : ℕ
    B = bursts_above p rs

-- clause 10.2: what the rule works out from the table, the first slot number and the calls alone
abbrev pub ruled_after : Table → ℕ → List Call → State
ruled_after t first calls = Runs.end ruled (opening t first) calls

pub record ServiceBounds (limit : ℕ) (t : Table) (first : ℕ) (before inside : List Call) : Type 0 where
  -- (i) clause 10.2: states and answers are the rule's, where the stretch begins and along it
  pub entered_by_rule : state_after limit t first before ≡ ruled_after t first before
  pub before_by_rule : answers_from limit (start_state limit t first) before ≡ Runs.answers ruled (opening t first) before
  pub inside_by_rule : answers_from limit (state_after limit t first before) inside ≡ Runs.answers ruled (ruled_after t first before) inside
  pub left_by_rule : Runs.end (called limit) (state_after limit t first before) inside ≡ Runs.end ruled (ruled_after t first before) inside
  -- (ii) clause 10.4, the ceiling
  pub ceiling : (k : ℕ) → 1 ≤ k → k ≤ t.count
      → Ceiling t.denominator (requestors_of t) k
      (slots_in (answers_from limit (state_after limit t first before) inside)) (grants_to_first k (answers_from limit (state_after limit t first before) inside))
  -- (iii) clause 10.3, the floor
  pub floor : (p : ℕ) → p < t.count → Waits p (ruled_after t first before) inside
      → t.denominator ≤ credit (account_at p (ruled_after t first before).accounts)
      → Floor t.denominator (requestors_of t) p
      (slots_in (answers_from limit (state_after limit t first before) inside)) (grants_to p (answers_from limit (state_after limit t first before) inside))

-- so for every list and every stretch of it (clause 10.1)
abbrev pub ServiceBoundsHold : Type 0
ServiceBoundsHold = (limit : ℕ) (t : Table) (first : ℕ) → Accepted limit t first → (before inside : List Call) → ServiceBounds limit t first before inside
