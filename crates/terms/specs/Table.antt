-- The table (clauses 2.1 to 2.3, 2.5 and 2.6) and its checks 1 to 6 (clauses 12.1 to 12.6): 3, 4 and 5 look at one row, and all three at a
-- place ahead of the next place. Where a table asks to be admitted they are followed there by 17.
use Rattle.std.specs.Prelude.{Bool, ◌&&◌, List, [], ◌∷◌, ℕ, suc, ◌*◌, leb, eqb, take, drop, get_or, replicate}
use Rattle.lists.specs.Choices.{in_range}
use Rattle.lists.specs.Sums.{total, every}
use Rattle.lists.specs.Overwriting.{written_over}
use Rattle.terms.specs.declared.refusals.Cause.TheVariants as cause
use Rattle.terms.specs.declared.refusals.Refusal.{Refusal}
use Rattle.terms.specs.declared.bounds.Bounds as code
use Rattle.terms.specs.declared.place.Requestor.{Requestor}
use Rattle.terms.specs.Limits.{max_denominator, max_burst, max_need, max_within}
use Rattle.terms.specs.Refusals.{Verdict, faultless, refusal_of, refusal, refusal_at, gate, then}

-- D, N and the rows
pub record Table : Type 0 where
  pub denominator : ℕ
  pub count : ℕ
  pub requestors : List Requestor

-- the rate n and the burst b of a requestor
abbrev pub rate : Requestor → ℕ
rate r = r.rate

abbrev pub burst : Requestor → ℕ
burst r = r.burst

-- a row past place N−1: every field is 0 (clause 2.6)
abbrev pub no_requestor : Requestor
no_requestor = record { rate = 0; burst = 0; need = record { 0 = 0 }; within = record { 0 = 0 } }

abbrev pub requestor_clear : Requestor → Bool
requestor_clear r = eqb r.rate 0 && (eqb r.burst 0 && (eqb r.need.0 0 && eqb r.within.0 0))

-- the numbers of a row, in the order of a table's bytes
abbrev pub row_numbers : Requestor → List ℕ
row_numbers r = r.rate ∷ r.burst ∷ r.need.0 ∷ r.within.0 ∷ []

-- the requestor of place p in a list that begins at place 0
abbrev pub requestor_at : ℕ → List Requestor → Requestor
requestor_at p rs = get_or rs p no_requestor

-- the requestors of places 0 to N−1
abbrev pub requestors_of : Table → List Requestor
requestors_of t = take t.count t.requestors

-- a table of D, N and its rows from place 0 on, at most `limit` of them; the array has `limit` rows, and those past them are 0
unfoldable pub table_of : ℕ → ℕ → ℕ → List Requestor → Table
table_of limit d n rows = record { denominator = d; count = n; requestors = written_over rows (replicate limit no_requestor) }

-- the table whose every field is 0 (clause 1.6)
abbrev pub no_table : ℕ → Table
no_table limit = table_of limit 0 0 []

-- what a number is held to, and the refusal of one outside
pub record Bounds : Type 0 where
  pub low : ℕ
  pub high : ℕ
  pub outside : Refusal

-- clause 12.1; clause 12.2 of N itself; and clauses 12.3 to 12.5, the last of j and of L, at place p
abbrev pub denominator_bounds : Bounds
denominator_bounds = record { low = 1; high = max_denominator; outside = refusal 1 }

abbrev pub count_bounds : ℕ → Bounds
count_bounds limit = record { low = 1; high = limit; outside = refusal 2 }

abbrev pub rate_bounds : ℕ → ℕ → Bounds
rate_bounds d p = record { low = 1; high = d; outside = refusal_at 3 p }

abbrev pub burst_bounds : ℕ → ℕ → Bounds
burst_bounds d p = record { low = d; high = max_burst; outside = refusal_at 4 p }

abbrev pub need_bounds : ℕ → Bounds
need_bounds p = record { low = 1; high = max_need; outside = refusal_at 5 p }

abbrev pub within_bounds : ℕ → Bounds
within_bounds p = record { low = 1; high = max_within; outside = refusal_at 5 p }

-- a number held to its bounds
unfoldable pub held_to : Bounds → ℕ → Verdict
held_to b x = gate b.outside (in_range b.low b.high x) faultless

-- the code's bounds in these values
abbrev pub bounds_of : code.Bounds → Bounds
bounds_of b = record { low = b.low; high = b.high; outside = refusal_of (cause.Input b.outside) }

-- checks 3, 4 and 5 of the requestor at place p, in the order of clause 13.1
unfoldable pub fields_verdict : ℕ → ℕ → Requestor → Verdict
fields_verdict d p r =
    then (held_to (rate_bounds d p) r.rate)
    (then (held_to (burst_bounds d p) r.burst)
    (then (held_to (need_bounds p) r.need.0)
    (held_to (within_bounds p) r.within.0)))

-- clauses 2.3 and 12.17 of it: its j transfers, D each, fit its burst
unfoldable pub need_fits : ℕ → Requestor → Bool
need_fits d r = leb (r.need.0 * d) r.burst

unfoldable pub need_fits_verdict : ℕ → ℕ → Requestor → Verdict
need_fits_verdict d p r = gate (refusal_at 17 p) (need_fits d r) faultless

-- what is checked of it in a state's table; and where a table asks to be admitted (clause 13.1)
abbrev pub state_row_verdict : ℕ → ℕ → Requestor → Verdict
state_row_verdict d p r = fields_verdict d p r

unfoldable pub offered_row_verdict : ℕ → ℕ → Requestor → Verdict
offered_row_verdict d p r = then (fields_verdict d p r) (need_fits_verdict d p r)

-- a check place by place, from place p on
unfoldable pub each_place : (ℕ → Requestor → Verdict) → ℕ → List Requestor → Verdict
each_place check p [] = faultless
each_place check p (r ∷ rs) = then (check p r) (each_place check (suc p) rs)

-- the part of clause 12.2 that looks past place N−1
unfoldable pub tail_verdict : Table → Verdict
tail_verdict t = gate (refusal 2) (every requestor_clear (drop t.count t.requestors)) faultless

-- clauses 2.2 and 12.6
unfoldable pub rate_sum_verdict : Table → Verdict
rate_sum_verdict t = gate (refusal 6) (leb (total rate (requestors_of t)) t.denominator) faultless

-- 17 alone, with the lowest place whose need does not fit
abbrev pub needs_fit_verdict : Table → Verdict
needs_fit_verdict t = each_place (need_fits_verdict t.denominator) 0 (requestors_of t)

-- clause 13.1: 1, 2, then what is checked of each row, and then 6; `limit` is how many places there is room for
unfoldable pub verdict_by : (row : (d p : ℕ) → Requestor → Verdict) → ℕ → Table → Verdict
verdict_by row limit t =
    then (held_to denominator_bounds t.denominator)
    (then (held_to (count_bounds limit) t.count)
    (then (tail_verdict t)
    (then (each_place (row t.denominator) 0 (requestors_of t))
    (rate_sum_verdict t))))

-- checks 1 to 6: those of a state's table, in test 23 (clause 2.5)
abbrev pub table_verdict : ℕ → Table → Verdict
table_verdict limit t = verdict_by state_row_verdict limit t

-- and with 17 among them: those of a table that asks to be admitted, ahead of 7 (clause 2.5)
abbrev pub offered_verdict : ℕ → Table → Verdict
offered_verdict limit t = verdict_by offered_row_verdict limit t
