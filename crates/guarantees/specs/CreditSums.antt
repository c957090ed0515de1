-- Clause 5.8: one credit may pass its burst, but the credits of the first k places together never pass their bursts together. So the state
-- always passes test 23 (clause 11.2). And the rate that the places above leave, R, is enough for the place's own (clause 7.1).
use Rattle.std.specs.Prelude.{◌≡◌, true, List, ℕ, suc, ◌≤◌, ◌<◌, take, length}
use Rattle.lists.specs.Sums.{total}
use Rattle.terms.specs.Table.{Table, burst, requestors_of, table_verdict, requestor_at}
use Rattle.terms.specs.State.{State, credit, sound}
use Rattle.terms.specs.Refusals.{faultless, refusal}
use Rattle.terms.specs.Answers.{refused}
use Rattle.terms.specs.Figures.{rate_left}
use Rattle.rule.specs.Calls.{Call, called}
use Rattle.guarantees.specs.Counts.{Accepted, state_after}

-- of a state s and the table t it was started with: clause 5.8 is `sums`, clause 11.2 `passes_23`
pub record Sustained (limit : ℕ) (t : Table) (s : State) : Type 0 where
  pub same_table : s.table ≡ t
  pub sums : (k : ℕ) → total credit (take (suc k) s.accounts) ≤ total burst (take (suc k) t.requestors)
  pub passes_23 : sound limit s ≡ true
  pub never_23 : (c : Call) → (called limit s c).answer ≡ refused (refusal 23) → ⊥

-- clauses 5.8 and 11.2
abbrev pub CreditSums : Type 0
CreditSums = (limit : ℕ) (t : Table) (first : ℕ) → Accepted limit t first → (calls : List Call) → Sustained limit t (state_after limit t first calls)

-- clause 7.1: n ≤ R, so R ≥ 1, at every place of a table that passes checks 1 to 6
abbrev pub RateLeft : Type 0
RateLeft = (limit : ℕ) (t : Table) → length t.requestors ≡ limit → table_verdict limit t ≡ faultless → (p : ℕ) → p < t.count
    → ((requestor_at p (requestors_of t)).rate ≤ rate_left t.denominator p (requestors_of t)) × (1 ≤ rate_left t.denominator p (requestors_of t))
