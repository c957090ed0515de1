-- Clauses 7.1 to 7.3: the sums above a place, the wait and the finish figure; and admission (clauses 2.4 and 2.5), whose last check is 7.
use Rattle.std.specs.Prelude.{List, ℕ, ◌+◌, ◌-◌, ◌*◌, ◌/◌, leb, take}
use Rattle.lists.specs.Sums.{total}
use Rattle.terms.specs.Limits.{max_denominator, max_burst, max_need}
use Rattle.terms.specs.declared.place.Requestor.{Requestor}
use Rattle.terms.specs.Table.{Table, rate, burst, requestor_at, requestors_of, each_place, offered_verdict}
use Rattle.terms.specs.Refusals.{Verdict, faultless, refusal_at, gate, then}

-- a / b, rounded up
unfoldable pub rounded_up : ℕ → ℕ → ℕ
rounded_up a b = (a + (b - 1)) / b

-- B, the sum of the bursts above place p (clause 7.1)
abbrev pub bursts_above : ℕ → List Requestor → ℕ
bursts_above p rs = total burst (take p rs)

-- the sum of the rates above place p (clause 7.1)
abbrev pub rates_above : ℕ → List Requestor → ℕ
rates_above p rs = total rate (take p rs)

-- R, what these rates leave of D (clause 7.1)
abbrev pub rate_left : ℕ → ℕ → List Requestor → ℕ
rate_left d p rs = d - rates_above p rs

-- the reported wait: Θ, which is B / R, rounded up
abbrev pub wait_of : ℕ → ℕ → ℕ
wait_of B R = rounded_up B R

-- the reported wait of place p (clause 7.2)
abbrev pub wait : ℕ → List Requestor → ℕ → ℕ
wait d rs p = wait_of (bursts_above p rs) (rate_left d p rs)

-- the finish figure for j transfers at rate n, as one quotient (clause 7.3)
abbrev pub finish_of : ℕ → ℕ → ℕ → ℕ → ℕ → ℕ
finish_of d B R n j = rounded_up (B * n + j * d * R) (R * n)

-- the finish figure of place p for j transfers (clause 7.3)
unfoldable pub finish : ℕ → List Requestor → ℕ → ℕ → ℕ
finish d rs p j = finish_of d (bursts_above p rs) (rate_left d p rs) (requestor_at p rs).rate j

-- what a finish figure is at most in a table of `limit` places: all their bursts and all transfers of a need, undivided
abbrev pub most_finish : ℕ → ℕ
most_finish limit = limit * max_burst + max_need * max_denominator

-- clauses 2.4 and 12.7 of the requestor r at place p
unfoldable pub finish_verdict : ℕ → List Requestor → ℕ → Requestor → Verdict
finish_verdict d rs p r = gate (refusal_at 7 p) (leb (finish d rs p r.need.0) r.within.0) faultless

-- check 7, with the lowest failing place
abbrev pub finishes_verdict : Table → Verdict
finishes_verdict t = each_place (finish_verdict t.denominator (requestors_of t)) 0 (requestors_of t)

-- admission (clauses 2.5 and 13.1): 1 to 6 with 17 among them, then 7
unfoldable pub admission_verdict : ℕ → Table → Verdict
admission_verdict limit t = then (offered_verdict limit t) (finishes_verdict t)
