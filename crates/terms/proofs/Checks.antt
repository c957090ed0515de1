-- What checks that find no fault say. Assumes nothing.
use Rattle.std.proofs.Common.{◌≡◌, refl, ap, sym, ◌∙◌, Bool, true, false, List, [], ◌∷◌, ◌⊎◌, inl, inr, ℕ, zero, suc, ◌+◌, ◌*◌, ◌≤◌, ◌<◌, mul-le-mul_right, not-suc-le-zero, zero-add, add-zero, add-suc, suc-add, arith, leb-true, le-leb, length, drop, length-take}
use Rattle.lists.specs.Sums.{total, every}
use Rattle.lists.proofs.Sums.{total_most}
use Rattle.lists.proofs.Tests.{in_range_true, in_range_lem}
use Rattle.terms.specs.declared.refusals.Refusal.{Refusal}
use Rattle.terms.specs.declared.place.Requestor.{Requestor}
use Rattle.terms.specs.Table.{Table, Bounds, denominator_bounds, count_bounds, rate_bounds, burst_bounds, need_bounds, within_bounds, held_to, rate, burst, no_requestor, requestor_clear, requestor_at, requestors_of, fields_verdict, need_fits, need_fits_verdict, offered_row_verdict, each_place, tail_verdict, rate_sum_verdict, needs_fit_verdict, verdict_by, table_verdict, offered_verdict}
use Rattle.terms.specs.Limits.{max_denominator, max_burst, max_need, max_within}
use Rattle.terms.specs.Refusals.{Verdict, faultless, fault, gate, then}
use Rattle.terms.specs.Figures.{finish, finish_verdict, finishes_verdict, admission_verdict}

-- no verdict is both
pub faultless_fault : {X : Type 0} (r : Refusal) → faultless ≡ fault r → X
faultless_fault r e = let z : ◌≡◌ {A = ℕ} 0 1 = cc in absurd (omega arith)

pub gate_open : (r : Refusal) (test : Bool) (rest : Verdict) → gate r test rest ≡ faultless → (test ≡ true) × (rest ≡ faultless)
unfolding gate
gate_open r true rest e = (refl, e)
gate_open r false rest e = faultless_fault r (sym e)

pub then_open : (v rest : Verdict) → then v rest ≡ faultless → (v ≡ faultless) × (rest ≡ faultless)
unfolding then
then_open faultless rest e = (refl, e)
then_open (fault r) rest e = faultless_fault r (sym e)

-- a fault is that of the one series of checks or, if that passes, of the other
pub then_fault : (v rest : Verdict) (r : Refusal) → then v rest ≡ fault r → (v ≡ fault r) ⊎ ((v ≡ faultless) × (rest ≡ fault r))
unfolding then
then_fault faultless rest r e = inr (refl, e)
then_fault (fault x) rest r e = inl e

-- nothing is left to be found
pub then_none : (v : Verdict) → then v faultless ≡ v
unfolding then
then_none faultless = refl
then_none (fault r) = refl

-- a check whose refusal has another number does not find this one
pub gate_not : (r other : Refusal) (test : Bool) (rest : Verdict) → (r.number ≡ other.number → ⊥) → (rest ≡ fault other → ⊥)
    → gate r test rest ≡ fault other → ⊥
unfolding gate
gate_not r other true rest apart below e = below e
gate_not r other false rest apart below e = let same : r ≡ other = cc in apart (ap (λ x. x.number) same)

pub gate_passed : (r : Refusal) (test : Bool) (rest : Verdict) → test ≡ true → gate r test rest ≡ rest
unfolding gate
gate_passed r test rest e = rw e

pub gate_failed : (r : Refusal) (test : Bool) (rest : Verdict) → test ≡ false → gate r test rest ≡ fault r
unfolding gate
gate_failed r test rest e = rw e

-- a number passes its bounds when it is within them, and only then
pub held_open : (b : Bounds) (x : ℕ) → held_to b x ≡ faultless → (b.low ≤ x) × (x ≤ b.high)
unfolding held_to
held_open b x e = in_range_true _ _ _ (gate_open _ _ _ e).0

pub held : (b : Bounds) (x : ℕ) → b.low ≤ x → x ≤ b.high → held_to b x ≡ faultless
unfolding held_to
held b x low high = gate_passed _ _ _ (in_range_lem low high)

-- the code's bounds are those of the field
pub held_by : (v : Verdict) (b field : Bounds) (x : ℕ) → v ≡ held_to b x → b ≡ field → v ≡ held_to field x
held_by v b field x e f = e ∙ ap (λ y. held_to y x) f

-- a check that passes place by place passes at each place
pub each_place_at : (check : ℕ → Requestor → Verdict) (p : ℕ) (rs : List Requestor) → each_place check p rs ≡ faultless
    → (i : ℕ) → i < length rs → check (p + i) (requestor_at i rs) ≡ faultless
unfolding each_place
each_place_at check p [] e i h = absurd (not-suc-le-zero h)
each_place_at check p (r ∷ rs) e zero h = rw add-zero (then_open (check p r) (each_place check (suc p) rs) e).0
each_place_at check p (r ∷ rs) e (suc i) h = rw (add-suc, ← suc-add) (each_place_at check (suc p) rs (then_open (check p r) (each_place check (suc p) rs) e).1 i (omega arith))

-- and only then
pub at_each_place : (check : ℕ → Requestor → Verdict) (p : ℕ) (rs : List Requestor)
    → ((i : ℕ) → i < length rs → check (p + i) (requestor_at i rs) ≡ faultless) → each_place check p rs ≡ faultless
unfolding each_place then
at_each_place check p [] h = refl
at_each_place check p (r ∷ rs) h =
    let here : check p r ≡ faultless = rw add-zero at (h 0 (omega arith)) in
    rw here (at_each_place check (suc p) rs (λ i l. rw (suc-add, ← add-suc) (h (suc i) (omega arith))))

-- so a check that passes of every row of which another passes
pub each_place_weaker : (check other : ℕ → Requestor → Verdict) → ((p : ℕ) (r : Requestor) → check p r ≡ faultless → other p r ≡ faultless)
    → (p : ℕ) (rs : List Requestor) → each_place check p rs ≡ faultless → each_place other p rs ≡ faultless
each_place_weaker check other h p rs e = at_each_place other p rs (λ i l. h (p + i) (requestor_at i rs) (each_place_at check p rs e i l))

-- checks that agree at each place find the same
pub each_place_same : (check other : ℕ → Requestor → Verdict) (p : ℕ) (rs : List Requestor)
    → ((i : ℕ) → i < length rs → (r : Requestor) → check (p + i) r ≡ other (p + i) r) → each_place check p rs ≡ each_place other p rs
unfolding each_place
each_place_same check other p [] h = refl
each_place_same check other p (r ∷ rs) h =
    let here : check p r ≡ other p r = rw add-zero at (h 0 (omega arith) r) in
    rw (here, each_place_same check other (suc p) rs (λ i l x. rw (suc-add, ← add-suc) (h (suc i) (omega arith) x)))

-- a fault that is found place by place is that of one place, and the places before it pass
pub record FirstFault (check : ℕ → Requestor → Verdict) (p : ℕ) (rs : List Requestor) (r : Refusal) : Type 0 where
  pub at : ℕ
  pub inside : at < length rs
  pub found : check (p + at) (requestor_at at rs) ≡ fault r
  pub before : (i : ℕ) → i < at → check (p + i) (requestor_at i rs) ≡ faultless

pub each_place_fault : (check : ℕ → Requestor → Verdict) (p : ℕ) (rs : List Requestor) (r : Refusal) → each_place check p rs ≡ fault r → FirstFault check p rs r
unfolding each_place then
each_place_fault check p [] r e = faultless_fault r e
each_place_fault check p (x ∷ rs) r e = go (check p x) refl (each_place_fault check (suc p) rs r)
  where
    go : (v : Verdict) → check p x ≡ v → (each_place check (suc p) rs ≡ fault r → FirstFault check (suc p) rs r) → FirstFault check p (x ∷ rs) r
    go (fault why) fails rest = record { at = 0; inside = omega arith; found = rw add-zero (fails ∙ (rw fails at e)); before = λ i h. absurd (not-suc-le-zero h) }
    go faultless passes rest =
        let f = rest (rw passes at e) in
        record { at = suc f.at; inside = omega (arith, f.inside); found = rw (add-suc, ← suc-add) f.found; before = ahead f.at f.before }
      where
        ahead : (at : ℕ) → ((i : ℕ) → i < at → check (suc p + i) (requestor_at i rs) ≡ faultless) → (i : ℕ) → i < suc at → check (p + i) (requestor_at i (x ∷ rs)) ≡ faultless
        ahead at before zero h = rw add-zero passes
        ahead at before (suc i) h = rw (add-suc, ← suc-add) (before i (omega arith))

-- a row within its limits
pub record Row (d : ℕ) (r : Requestor) : Type 0 where
  pub rate_least : 1 ≤ r.rate
  pub rate_most : r.rate ≤ d
  pub burst_least : d ≤ r.burst
  pub burst_most : r.burst ≤ max_burst
  pub need_least : 1 ≤ r.need.0
  pub need_most : r.need.0 ≤ max_need
  pub within_least : 1 ≤ r.within.0
  pub within_most : r.within.0 ≤ max_within

pub row_open : (d p : ℕ) (r : Requestor) → fields_verdict d p r ≡ faultless → Row d r
unfolding fields_verdict
row_open d p r e =
    let a = then_open _ _ e in
    let b = then_open _ _ a.1 in
    let c = then_open _ _ b.1 in
    let ra = held_open (rate_bounds d p) _ a.0 in
    let bu = held_open (burst_bounds d p) _ b.0 in
    let ne = held_open (need_bounds p) _ c.0 in
    let wi = held_open (within_bounds p) _ c.1 in
    record {
      rate_least = ra.0;
      rate_most = ra.1;
      burst_least = bu.0;
      burst_most = bu.1;
      need_least = ne.0;
      need_most = ne.1;
      within_least = wi.0;
      within_most = wi.1;
    }

-- at any place
pub row_passes : (d p : ℕ) (r : Requestor) → Row d r → fields_verdict d p r ≡ faultless
unfolding fields_verdict then
row_passes d p r h = rw (
  held (rate_bounds d p) r.rate h.rate_least h.rate_most,
  held (burst_bounds d p) r.burst h.burst_least h.burst_most,
  held (need_bounds p) r.need.0 h.need_least h.need_most,
  held (within_bounds p) r.within.0 h.within_least h.within_most,
)

-- a row that may be admitted: it is within its limits, and its need fits
pub offered_row_open : (d p : ℕ) (r : Requestor) → offered_row_verdict d p r ≡ faultless → (fields_verdict d p r ≡ faultless) × (r.need.0 * d ≤ r.burst)
unfolding offered_row_verdict need_fits_verdict need_fits
offered_row_open d p r e = let a = then_open _ _ e in (a.0, leb-true _ _ (gate_open _ _ _ a.1).0)

-- at any place
pub offered_row_passes : (d p : ℕ) (r : Requestor) → Row d r → r.need.0 * d ≤ r.burst → offered_row_verdict d p r ≡ faultless
unfolding offered_row_verdict need_fits_verdict need_fits then
offered_row_passes d p r h fits = rw (row_passes d p r h) (gate_passed _ _ _ (le-leb _ _ fits))

-- of a table that passes 1, 2, a check of each row, and 6: what each of them says
pub record Passed (row : (d p : ℕ) → Requestor → Verdict) (limit : ℕ) (t : Table) : Type 0 where
  pub denominator : held_to denominator_bounds t.denominator ≡ faultless
  pub count : held_to (count_bounds limit) t.count ≡ faultless
  pub clear : every requestor_clear (drop t.count t.requestors) ≡ true
  pub rows : each_place (row t.denominator) 0 (requestors_of t) ≡ faultless
  pub sum : rate_sum_verdict t ≡ faultless

module _ (row : (d p : ℕ) → Requestor → Verdict) (limit : ℕ) (t : Table) where
  pub passed : verdict_by row limit t ≡ faultless → Passed row limit t
  unfolding verdict_by tail_verdict
  passed e =
      let a = then_open _ _ e in
      let b = then_open _ _ a.1 in
      let c = then_open _ _ b.1 in
      let f = then_open _ _ c.1 in
      record { denominator = a.0; count = b.0; clear = (gate_open _ _ _ c.0).0; rows = f.0; sum = f.1 }

  pub passes : Passed row limit t → verdict_by row limit t ≡ faultless
  unfolding verdict_by tail_verdict gate then
  passes p = rw (p.denominator, p.count, p.clear, p.rows, p.sum)

  -- with a check that passes of every row of which this one passes, the table passes too
  pub passes_weaker : (other : (d p : ℕ) → Requestor → Verdict) → ((d p : ℕ) (r : Requestor) → row d p r ≡ faultless → other d p r ≡ faultless)
      → verdict_by row limit t ≡ faultless → Passed other limit t
  passes_weaker other h e =
      let p = passed e in
      record {
        denominator = p.denominator;
        count = p.count;
        clear = p.clear;
        rows = each_place_weaker (row t.denominator) (other t.denominator) (h t.denominator) 0 (requestors_of t) p.rows;
        sum = p.sum;
      }

-- what admission passes, test 23 passes
pub offered_passes : (limit : ℕ) (t : Table) → offered_verdict limit t ≡ faultless → table_verdict limit t ≡ faultless
offered_passes limit t e = passes fields_verdict limit t (passes_weaker offered_row_verdict limit t fields_verdict (λ d p r ok. (offered_row_open d p r ok).0) e)

-- a table that passes checks 1 to 6, in numbers
pub record Fair (limit : ℕ) (t : Table) : Type 0 where
  pub denominator_least : 1 ≤ t.denominator
  pub denominator_most : t.denominator ≤ max_denominator
  pub count_least : 1 ≤ t.count
  pub count_most : t.count ≤ limit
  pub clear : every requestor_clear (drop t.count t.requestors) ≡ true
  pub row : (p : ℕ) → p < length (requestors_of t) → Row t.denominator (requestor_at p (requestors_of t))
  pub rate_sum : total rate (requestors_of t) ≤ t.denominator

pub fair : (limit : ℕ) (t : Table) → table_verdict limit t ≡ faultless → Fair limit t
unfolding rate_sum_verdict
fair limit t e =
    let p = passed fields_verdict limit t e in
    let d = held_open denominator_bounds _ p.denominator in
    let n = held_open (count_bounds limit) _ p.count in
    record {
      denominator_least = d.0;
      denominator_most = d.1;
      count_least = n.0;
      count_most = n.1;
      clear = p.clear;
      row = λ q h. row_open _ (0 + q) _ (each_place_at (fields_verdict t.denominator) 0 (requestors_of t) p.rows q h);
      rate_sum = leb-true _ _ (gate_open _ _ _ p.sum).0;
    }

-- the rates of rows within their limits, and the bursts of a table within its own
pub rates_fit : (d : ℕ) (rs : List Requestor) → each_place (fields_verdict d) 0 rs ≡ faultless → total rate rs ≤ length rs * d
rates_fit d rs e = total_most rate no_requestor d rs (λ p h. (row_open d (0 + p) _ (each_place_at (fields_verdict d) 0 rs e p h)).rate_most)

pub bursts_fit : (limit : ℕ) (t : Table) → Fair limit t → total burst (requestors_of t) ≤ limit * max_burst
bursts_fit limit t f =
    let few : length (requestors_of t) ≤ limit = omega (arith, length-take t.count t.requestors, f.count_most) in
    omega (arith, total_most burst no_requestor max_burst (requestors_of t) (λ p h. (f.row p h).burst_most), mul-le-mul_right max_burst few)

-- a table that passes admission: checks 1 to 6, each need fits its burst, and each is held
pub record Admitted (limit : ℕ) (t : Table) : Type 0 where
  pub passes : table_verdict limit t ≡ faultless
  pub fits : (p : ℕ) → p < length (requestors_of t) → (requestor_at p (requestors_of t)).need.0 * t.denominator ≤ (requestor_at p (requestors_of t)).burst
  pub need : (p : ℕ) → p < length (requestors_of t) → finish t.denominator (requestors_of t) p (requestor_at p (requestors_of t)).need.0 ≤ (requestor_at p (requestors_of t)).within.0

pub admitted : (limit : ℕ) (t : Table) → admission_verdict limit t ≡ faultless → Admitted limit t
unfolding admission_verdict finish_verdict
admitted limit t e =
    let a = then_open _ _ e in
    record {
      passes = offered_passes limit t a.0;
      fits = λ p h. (offered_row_open _ (0 + p) _ (each_place_at (offered_row_verdict t.denominator) 0 (requestors_of t) (passed offered_row_verdict limit t a.0).rows p h)).1;
      need = λ p h. leb-true _ _ (gate_open _ _ _ (rw (zero-add p) at (each_place_at (finish_verdict t.denominator (requestors_of t)) 0 (requestors_of t) a.1 p h))).0;
    }

-- check 7, where each need is held
pub finishes_pass : (t : Table)
    → ((p : ℕ) → p < length (requestors_of t) → finish t.denominator (requestors_of t) p (requestor_at p (requestors_of t)).need.0 ≤ (requestor_at p (requestors_of t)).within.0)
    → finishes_verdict t ≡ faultless
unfolding finish_verdict
finishes_pass t need =
    at_each_place (finish_verdict t.denominator (requestors_of t)) 0 (requestors_of t) (λ p h. rw (zero-add p) (gate_passed _ _ _ (le-leb _ _ (need p h))))

-- ---- 17 by itself

-- it is left of rows that pass 3, 4 and 5
fits_left : (d p : ℕ) (rs : List Requestor) → each_place (fields_verdict d) p rs ≡ faultless → each_place (offered_row_verdict d) p rs ≡ each_place (need_fits_verdict d) p rs
unfolding each_place offered_row_verdict then
fits_left d p [] e = refl
fits_left d p (r ∷ rs) e = let a = then_open (fields_verdict d p r) (each_place (fields_verdict d) (suc p) rs) e in rw (a.0, fits_left d (suc p) rs a.1)

-- where they pass, so does 17
pub offered_fits : (limit : ℕ) (t : Table) → offered_verdict limit t ≡ faultless → needs_fit_verdict t ≡ faultless
unfolding offered_row_verdict
offered_fits limit t e = each_place_weaker (offered_row_verdict t.denominator) (need_fits_verdict t.denominator) (λ p r ok. (then_open _ _ ok).1) 0 (requestors_of t) (passed offered_row_verdict limit t e).rows

offered_left : (limit : ℕ) (t : Table) → table_verdict limit t ≡ faultless → offered_verdict limit t ≡ needs_fit_verdict t
unfolding verdict_by tail_verdict gate then
offered_left limit t e =
    let p = passed fields_verdict limit t e in
    rw (p.denominator, p.count, p.clear, fits_left t.denominator 0 (requestors_of t) p.rows, p.sum) (then_none (needs_fit_verdict t))

-- of a table that passes 1 to 6, admission finds 17, place by place, and then 7
pub admission_left : (limit : ℕ) (t : Table) → table_verdict limit t ≡ faultless → admission_verdict limit t ≡ then (needs_fit_verdict t) (finishes_verdict t)
unfolding admission_verdict
admission_left limit t e = ap (λ v. then v (finishes_verdict t)) (offered_left limit t e)
