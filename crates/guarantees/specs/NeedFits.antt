-- A table is admitted only if each need fits its burst (clause 2.3). Test 23 does not ask for that (clause 2.5): a state whose table has a
-- larger need is served as if the need fitted.
use Rattle.std.specs.Prelude.{◌≡◌, true, List, ℕ, ◌*◌, ◌≤◌, ◌<◌, set}
use Rattle.lists.specs.Runs.{end}
use Rattle.terms.specs.declared.place.Requestor.{Requestor}
use Rattle.terms.specs.Table.{Table, requestor_at, requestors_of, needs_fit_verdict, table_verdict}
use Rattle.terms.specs.State.{State, sound, Shaped}
use Rattle.terms.specs.Limits.{max_need}
use Rattle.terms.specs.Refusals.{faultless, then}
use Rattle.terms.specs.Figures.{finishes_verdict, admission_verdict}
use Rattle.terms.specs.Queries as queries
use Rattle.terms.specs.Chain as chains
use Rattle.lead_parts.specs.Lead.{lead_query}
use Rattle.rule.specs.Calls.{Call, called}
use Rattle.rule.specs.Log.{run}
use Rattle.guarantees.specs.Counts.{Accepted, answers_from}

-- ---- admission and test 23

-- clause 2.3: the credit that a place saves up pays for its whole need
abbrev pub NeedsFit : Type 0
NeedsFit = (limit : ℕ) (t : Table) (first : ℕ) → Accepted limit t first → (p : ℕ) → p < t.count
    → (requestor_at p (requestors_of t)).need.0 * t.denominator ≤ (requestor_at p (requestors_of t)).burst

-- clause 2.5: a table that admission passes, passes test 23's checks of a table
abbrev pub AdmittedPasses23 : Type 0
AdmittedPasses23 = (limit : ℕ) (t : Table) → admission_verdict limit t ≡ faultless → table_verdict limit t ≡ faultless

-- and of one that passes these, admission finds 17, with the lowest place whose need does not fit, and then 7 (clause 2.5)
abbrev pub RestOfAdmission : Type 0
RestOfAdmission = (limit : ℕ) (t : Table) → table_verdict limit t ≡ faultless → admission_verdict limit t ≡ then (needs_fit_verdict t) (finishes_verdict t)

-- ---- a state whose table has another need

abbrev pub needing : (j : ℕ) → Requestor → Requestor
needing j r = record { rate = r.rate; burst = r.burst; need = record { 0 = j }; within = r.within }

-- the state with j transfers for the need of place p
abbrev pub with_need : (p j : ℕ) → State → State
with_need p j s = record {
  table = record {
    denominator = s.table.denominator;
    count = s.table.count;
    requestors = set s.table.requestors p (needing j (requestor_at p s.table.requestors));
  };
  slot = s.slot;
  accounts = s.accounts;
}

-- what calls on it come to: what they come to on the state itself, and the need stays
pub record SameService (limit p j : ℕ) (s : State) : Type 0 where
  pub passes_23 : sound limit (with_need p j s) ≡ true
  pub answers : (calls : List Call) → answers_from limit (with_need p j s) calls ≡ answers_from limit s calls
  pub states : (calls : List Call) → end (called limit) (with_need p j s) calls ≡ with_need p j (end (called limit) s calls)
  pub run : (log : List ℕ) → run limit (with_need p j s) log ≡ record { state = with_need p j (run limit s log).state; answer = (run limit s log).answer; log = (run limit s log).log }
  pub lead : (q : ℕ) (log : List ℕ) → lead_query limit (with_need p j s) q log ≡ lead_query limit s q log
  pub figures : (q k : ℕ) → queries.figures limit (with_need p j s) q k ≡ queries.figures limit s q k
  pub chain : (q : ℕ) (names : List ℕ) → chains.chain limit (with_need p j s) q names ≡ chains.chain limit s q names

-- clause 2.5 with any j within the limits of check 5
abbrev pub AnyNeedIsServed : Type 0
AnyNeedIsServed = (limit : ℕ) (s : State) (p j : ℕ) → Shaped limit s → sound limit s ≡ true → p < s.table.count → 1 ≤ j → j ≤ max_need → SameService limit p j s
