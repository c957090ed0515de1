-- What is counted along a list of calls (clauses 10.1, 10.3 and 10.4). Slots and grants are counted in what the calls answered.
use Rattle.std.specs.Prelude.{List, [], ◌∷◌, ◌≡◌, ℕ, zero, suc, ◌<◌, length, Option, Some, None}
use Rattle.lists.specs.Sums.{total}
use Rattle.lists.specs.Runs
use Rattle.terms.specs.Table.{Table}
use Rattle.terms.specs.State.{State, backlog, account_at}
use Rattle.terms.specs.Answers.{Answer, accepted, granted, idle, refused}
use Rattle.terms.specs.Start.{start}
use Rattle.rule.specs.Grants.{to_place, to_first}
use Rattle.rule.specs.Calls.{Call, ruled, called}

-- f of the grant of an accepted slot, x of any other answer
abbrev pub in_slot {ℓ} : {X : Type ℓ} → X → (Option ℕ → X) → Answer → X
in_slot x f accepted = x
in_slot x f (granted stamp p) = f (Some p)
in_slot x f (idle stamp) = f None
in_slot x f (refused r) = x

-- the number of accepted slots: m of a stretch (clause 10.3)
abbrev pub slots_in : List Answer → ℕ
slots_in = total (in_slot 0 (λ g. 1))

-- the transfers granted to place p: g of a stretch (clause 10.3)
abbrev pub grants_to : ℕ → List Answer → ℕ
grants_to p = total (in_slot 0 (to_place p))

-- the transfers granted to the first k places: G of a stretch (clause 10.4)
abbrev pub grants_to_first : ℕ → List Answer → ℕ
grants_to_first k = total (in_slot 0 (to_first k))

-- the answers up to the m-th accepted slot
unfoldable pub first_slots : List Answer → ℕ → List Answer
first_slots [] m = []
first_slots (a ∷ answered) zero = []
first_slots (a ∷ answered) (suc m) = a ∷ first_slots answered (in_slot (suc m) (λ g. m) a)

-- clause 10.1: whether a place waits is asked directly before an accepted slot, and of no other call
abbrev pub WaitsAt : ℕ → State → Answer → Type 0
WaitsAt p s = in_slot (Unit {0}) (λ g. 0 < backlog (account_at p s.accounts))

-- so in each accepted slot (clause 10.1)
abbrev pub Waits : ℕ → State → List Call → Type 0
Waits p = Runs.Each ruled (WaitsAt p)

-- the table and first slot number of an accepted start (clause 10.1); an array of `limit` rows holds the table
pub record Accepted (limit : ℕ) (t : Table) (first : ℕ) : Type 0 where
  pub rows : length t.requestors ≡ limit
  pub answer : (start limit t first).answer ≡ accepted

-- the state that start hands back; of an accepted start it is `opening` of the table and the first slot number
abbrev pub start_state : ℕ → Table → ℕ → State
start_state limit t first = (start limit t first).state

-- the state after calls from a start, and what calls on a state answer: each is handed what the one before it left (clause 10.1)
abbrev pub state_after : ℕ → Table → ℕ → List Call → State
state_after limit t first calls = Runs.end (called limit) (start_state limit t first) calls

abbrev pub answers_from : ℕ → State → List Call → List Answer
answers_from limit s calls = Runs.answers (called limit) s calls
