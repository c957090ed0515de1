-- Clause 10.6, which the floor and the need are proved through: whatever credit c a place enters a stretch with, one of two bounds on its
-- grants holds; where c is at least D, both come to the floor.
use Rattle.std.specs.Prelude.{◌≡◌, true, List, ◌⊎◌, ℕ, ◌+◌, ◌*◌, ◌≤◌, ◌<◌}
use Rattle.terms.specs.declared.place.Requestor.{Requestor}
use Rattle.terms.specs.State.{State, credit, account_at, sound, Shaped}
use Rattle.terms.specs.Table.{requestors_of, requestor_at}
use Rattle.terms.specs.Figures.{bursts_above, rate_left}
use Rattle.rule.specs.Calls.{Call}
use Rattle.guarantees.specs.Counts.{slots_in, grants_to, Waits, answers_from}

-- clause 10.6
abbrev pub Sharp : (d n R B c m g : ℕ) → Type 0
Sharp d n R B c m g = (R * m ≤ d * g + B) ⊎ (R * (c + n * m + 1) ≤ R * (d * g + d) + n * B)

-- with the figures of place p
abbrev pub Sharper : ℕ → List Requestor → ℕ → ℕ → ℕ → ℕ → Type 0
Sharper d rs p c m g = Sharp d (requestor_at p rs).rate (rate_left d p rs) (bursts_above p rs) c m g

-- clause 10.6 from any sound state, for a place that waits in each slot of the stretch
abbrev pub SharperFloor : Type 0
SharperFloor = (limit : ℕ) (s : State) → Shaped limit s → sound limit s ≡ true → (inside : List Call) (p : ℕ)
    → p < s.table.count → Waits p s inside
    → Sharper s.table.denominator (requestors_of s.table) p (credit (account_at p s.accounts))
    (slots_in (answers_from limit s inside)) (grants_to p (answers_from limit s inside))
