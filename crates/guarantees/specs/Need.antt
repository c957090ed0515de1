-- Clause 10.5, what a need promises: once j transfers wait at a place, so many are granted to it within L slots, whatever is posted or
-- refused meanwhile and whatever its credit. It holds for every j, with the finish figure for L.
use Rattle.std.specs.Prelude.{◌≡◌, true, List, ℕ, ◌≤◌, ◌<◌}
use Rattle.terms.specs.Table.{Table, requestors_of, requestor_at}
use Rattle.terms.specs.State.{State, backlog, account_at, sound, Shaped}
use Rattle.terms.specs.Answers.{Answer}
use Rattle.terms.specs.Figures.{finish}
use Rattle.rule.specs.Calls.{Call}
use Rattle.guarantees.specs.Counts.{slots_in, grants_to, first_slots, Accepted, state_after, answers_from}

-- clause 10.5: j transfers wait together at place p, whose credit may be any
pub record Pending (s : State) (p j : ℕ) : Type 0 where
  pub place : p < s.table.count
  pub waiting : j ≤ backlog (account_at p s.accounts)

-- clause 10.5: if so many slots are among the answers, the first so many grant place p at least j times
abbrev pub GrantedWithin : ℕ → List Answer → (p j : ℕ) → Type 0
GrantedWithin slots answered p j = slots ≤ slots_in answered → j ≤ grants_to p (first_slots answered slots)

-- clause 10.5 from any sound state, at the finish figure
abbrev pub NeedFromSound : Type 0
NeedFromSound = (limit : ℕ) (s : State) → Shaped limit s → sound limit s ≡ true → (inside : List Call) (p j : ℕ) → Pending s p j
    → GrantedWithin (finish s.table.denominator (requestors_of s.table) p j) (answers_from limit s inside) p j

-- clause 10.5 from an accepted start, after any calls, at the finish figure
abbrev pub NeedFromStart : Type 0
NeedFromStart = (limit : ℕ) (t : Table) (first : ℕ) → Accepted limit t first → (before inside : List Call) (p j : ℕ)
    → Pending (state_after limit t first before) p j
    → GrantedWithin (finish t.denominator (requestors_of t) p j) (answers_from limit (state_after limit t first before) inside) p j

-- clause 10.5: the table's own j within its L
abbrev pub OwnNeed : Type 0
OwnNeed = (limit : ℕ) (t : Table) (first : ℕ) → Accepted limit t first → (before inside : List Call) (p : ℕ)
    → Pending (state_after limit t first before) p (requestor_at p (requestors_of t)).need.0
    → GrantedWithin (requestor_at p (requestors_of t)).within.0 (answers_from limit (state_after limit t first before) inside) p (requestor_at p (requestors_of t)).need.0
