-- Clause 7.3: the finish figure is the least number of slots that covers the wait and the transfers, both before any rounding. Clause 7.5:
-- the former figure rounded the two up one by one, and was the same or one slot more. So the figure turns no installed basin away: of a
-- table that was accepted 17 alone can be found, which request 6 added, and if it is not, the table starts.
use Rattle.std.specs.Prelude.{◌≡◌, List, ℕ, ◌+◌, ◌*◌, ◌≤◌, ◌<◌, leb, length}
use Rattle.terms.specs.declared.place.Requestor.{Requestor}
use Rattle.terms.specs.Table.{Table, requestors_of, requestor_at, fields_verdict, each_place, needs_fit_verdict, verdict_by, table_verdict}
use Rattle.terms.specs.Limits.{max_need, max_slot}
use Rattle.terms.specs.Refusals.{Verdict, faultless, refusal_at, gate, then}
use Rattle.terms.specs.Figures.{rounded_up, bursts_above, rate_left, wait, finish, most_finish, admission_verdict}
use Rattle.guarantees.specs.Counts.{Accepted}

-- ---- the figure

-- so many slots are at least the sum of clause 7.3, B / R + j × D / n; both sides are taken R × n times
abbrev pub Covers : (d B R n j slots : ℕ) → Type 0
Covers d B R n j slots = B * n + j * d * R ≤ R * n * slots

pub record Least (Enough : ℕ → Type 0) (x : ℕ) : Type 0 where
  pub enough : Enough x
  pub least : (y : ℕ) → Enough y → x ≤ y

-- clause 7.3 for every j, at each place of a table that passes checks 1 to 6
abbrev pub FigureIsLeast : Type 0
FigureIsLeast = (limit : ℕ) (t : Table) → length t.requestors ≡ limit → table_verdict limit t ≡ faultless → (p j : ℕ) → p < t.count
    → Least (Covers t.denominator (bursts_above p (requestors_of t)) (rate_left t.denominator p (requestors_of t)) (requestor_at p (requestors_of t)).rate j)
    (finish t.denominator (requestors_of t) p j)

-- clause 7.3's figure is small, for any j that a need may have
abbrev pub FigureAtMost : Type 0
FigureAtMost = (limit : ℕ) (t : Table) → length t.requestors ≡ limit → table_verdict limit t ≡ faultless → (p j : ℕ) → p < t.count → j ≤ max_need
    → finish t.denominator (requestors_of t) p j ≤ most_finish limit

-- ---- the former figure

-- the figure before request 1 (clause 7.5): the reported wait of place p, and j × D / n rounded up
unfoldable pub former_finish : ℕ → List Requestor → ℕ → ℕ → ℕ
former_finish d rs p j = wait d rs p + rounded_up (j * d) (requestor_at p rs).rate

-- check 7 by it, of the requestor r at place p, and place by place
unfoldable pub former_finish_verdict : ℕ → List Requestor → ℕ → Requestor → Verdict
former_finish_verdict d rs p r = gate (refusal_at 7 p) (leb (former_finish d rs p r.need.0) r.within.0) faultless

abbrev pub former_finishes_verdict : Table → Verdict
former_finishes_verdict t = each_place (former_finish_verdict t.denominator (requestors_of t)) 0 (requestors_of t)

-- the checks of a table given as numbers with it, before request 6 (clause 7.5)
unfoldable pub former_verdict : ℕ → Table → Verdict
former_verdict limit t = then (verdict_by fields_verdict limit t) (former_finishes_verdict t)

pub record WithinOneSlot (figure former : ℕ) : Type 0 where
  pub not_above : figure ≤ former
  pub one_less : former ≤ figure + 1

-- clause 7.5 for every j, at each place of a table that passes checks 1 to 6
abbrev pub FigureWithinOneSlot : Type 0
FigureWithinOneSlot = (limit : ℕ) (t : Table) → length t.requestors ≡ limit → table_verdict limit t ≡ faultless → (p j : ℕ) → p < t.count
    → WithinOneSlot (finish t.denominator (requestors_of t) p j) (former_finish t.denominator (requestors_of t) p j)

-- ---- tables that stood

-- clause 7.5: what was accepted is accepted, but for a need that is larger than its burst
abbrev pub OnlySeventeenIsNew : Type 0
OnlySeventeenIsNew = (limit : ℕ) (t : Table) → length t.requestors ≡ limit → former_verdict limit t ≡ faultless → admission_verdict limit t ≡ needs_fit_verdict t

-- and without one it starts, at every slot number that a start takes (clause 7.5)
abbrev pub NoFittingBasinTurnedAway : Type 0
NoFittingBasinTurnedAway = (limit : ℕ) (t : Table) (first : ℕ) → length t.requestors ≡ limit → former_verdict limit t ≡ faultless → needs_fit_verdict t ≡ faultless
    → first ≤ max_slot → Accepted limit t first
