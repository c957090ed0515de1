-- Clause 6.4: what the ceiling and the floor say of leads. Over the log of an accepted run the summed leads of the first k places are at
-- most their summed bursts; and for a place that waits throughout and enters with credit at least D, R × lead is at least −(n × B).
use Rattle.std.specs.Prelude.{◌≡◌, List, ℕ, zero, suc, ◌*◌, ◌≤◌, ◌<◌, ℤ, pos, neg_ℤ, ◌+ℤ◌, ◌*ℤ◌, length, take}
use Rattle.lists.specs.Sums.{total}
use Rattle.terms.specs.Table.{Table, burst, requestor_at, requestors_of}
use Rattle.terms.specs.State.{State, credit, account_at, Shaped}
use Rattle.terms.specs.Answers.{accepted}
use Rattle.terms.specs.Figures.{bursts_above, rate_left}
use Rattle.lead_parts.specs.Lead.{lead_in}
use Rattle.rule.specs.Log.{run}
use Rattle.guarantees.specs.Counts.{Waits}
use Rattle.guarantees.specs.RunSlots.{slots}

-- a is at most b: b is a and some natural number
abbrev pub AtMost : ℤ → ℤ → Type 0
AtMost a b = (x : ℕ) × (a +ℤ pos x ≡ b)

-- the summed leads of the first k places (clause 6.4)
unfoldable pub summed_leads : Table → ℕ → List ℕ → ℤ
summed_leads t zero log = pos 0
summed_leads t (suc k) log = summed_leads t k log +ℤ lead_in t k log

-- clause 6.4 for place p: R × lead ≥ −(n × B)
abbrev pub WaitingLead : Table → ℕ → List ℕ → Type 0
WaitingLead t p log = AtMost (neg_ℤ (pos (n * B))) (pos R *ℤ lead_in t p log)
  where
    n : ℕ
    n = (requestor_at p t.requestors).rate

    R : ℕ
    R = rate_left t.denominator p (requestors_of t)

    B : ℕ
    B = bursts_above p (requestors_of t)

pub record Leads (limit : ℕ) (s : State) (old : List ℕ) : Type 0 where
  pub summed : (k : ℕ) → k ≤ s.table.count
      → AtMost (summed_leads s.table k (run limit s old).log) (pos (total burst (take k (requestors_of s.table))))
  pub waiting : (p : ℕ) → p < s.table.count → Waits p s (slots (length old)) → s.table.denominator ≤ credit (account_at p s.accounts)
      → WaitingLead s.table p (run limit s old).log

-- clause 6.4; `limit` leaves 255 to idle slots
abbrev pub LeadsOfARun : Type 0
LeadsOfARun = (limit : ℕ) (s : State) (old : List ℕ) → limit ≤ 255 → Shaped limit s → (run limit s old).answer ≡ accepted → Leads limit s old
