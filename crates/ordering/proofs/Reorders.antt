-- Tables in another order: a table that passes 1 to 6 and 17 passes them in every order, and admission is then that each need holds. Assumes
-- nothing.
use Rattle.std.proofs.Common.{◌≡◌, sym, ℕ, ◌+◌, ◌≤◌, arith, leb-true, le-leb}
use Rattle.lists.specs.Sums.{total}
use Rattle.lists.proofs.Orders.{also_at, permuted_total}
use Rattle.terms.specs.declared.place.Requestor.{Requestor}
use Rattle.terms.specs.Table.{Table, rate, no_requestor, requestors_of, offered_row_verdict, each_place, rate_sum_verdict, offered_verdict}
use Rattle.terms.specs.Refusals.{faultless, then}
use Rattle.terms.specs.Figures.{finish, admission_verdict}
use Rattle.terms.proofs.Checks.{each_place_at, at_each_place, gate_open, gate_passed, row_open, offered_row_open, offered_row_passes, Passed, passed, passes, offered_passes, fair, admitted, finishes_pass}
use Rattle.ordering.specs.Order.{need_holds}
use Rattle.ordering.specs.Claims.{same_requestor, Reordered}
use Rattle.ordering.proofs.Needs.{requestors_told, Holds, Rated}

pub reordered_back : (t u : Table) → Reordered t u → Reordered u t
reordered_back t u e = record {
  denominator = sym e.denominator;
  count = sym e.count;
  requestors = λ x. sym (e.requestors x);
  past = sym e.past;
}

-- ---- checks 1 to 6, and 17

-- what passes at one place passes at every other
anywhere : (d p q : ℕ) (r : Requestor) → offered_row_verdict d p r ≡ faultless → offered_row_verdict d q r ≡ faultless
anywhere d p q r ok = let (row, fits) = offered_row_open d p r ok in offered_row_passes d q r (row_open d p r row) fits

module _ (limit : ℕ) (t u : Table) (e : Reordered t u) (ok : offered_verdict limit t ≡ faultless) where
  abbrev checked : Passed offered_row_verdict limit t
  checked = passed offered_row_verdict limit t ok

  rows_stand : each_place (offered_row_verdict u.denominator) 0 (requestors_of u) ≡ faultless
  rows_stand = at_each_place (offered_row_verdict u.denominator) 0 (requestors_of u) λ i h.
      let (j, there, same) = also_at same_requestor requestors_told no_requestor (requestors_of u) (requestors_of t) e.requestors i h in
      rw (e.denominator, ← same) (anywhere t.denominator (0 + j) (0 + i) _ (each_place_at (offered_row_verdict t.denominator) 0 (requestors_of t) checked.rows j there))

  sum_stands : rate_sum_verdict u ≡ faultless
  unfolding rate_sum_verdict
  sum_stands =
      let same = permuted_total same_requestor requestors_told no_requestor rate (requestors_of u) (requestors_of t) e.requestors in
      let own : total rate (requestors_of t) ≤ t.denominator = leb-true _ _ (gate_open _ _ _ checked.sum).0 in
      let fits : total rate (requestors_of u) ≤ u.denominator = omega (arith, same, e.denominator, own) in
      gate_passed _ _ _ (le-leb _ _ fits)

  pub checks_stand : offered_verdict limit u ≡ faultless
  checks_stand = passes offered_row_verdict limit u (record {
    denominator = rw e.denominator checked.denominator;
    count = rw e.count checked.count;
    clear = rw e.past checked.clear;
    rows = rows_stand;
    sum = sum_stands;
  })

-- ---- admission

pub rated : (limit : ℕ) (t : Table) → offered_verdict limit t ≡ faultless → Rated t.denominator (requestors_of t)
rated limit t ok =
    let f = fair limit t (offered_passes limit t ok) in
    record { each = λ p h. (f.row p h).rate_least; sum = f.rate_sum }

pub admitted_holds : (limit : ℕ) (t : Table) → admission_verdict limit t ≡ faultless → Holds t.denominator (requestors_of t)
unfolding finish need_holds
admitted_holds limit t ok p h = le-leb _ _ ((admitted limit t ok).need p h)

pub holds_admits : (limit : ℕ) (t : Table) → offered_verdict limit t ≡ faultless → Holds t.denominator (requestors_of t) → admission_verdict limit t ≡ faultless
unfolding admission_verdict finish need_holds then
holds_admits limit t ok holds = rw ok (finishes_pass t (λ p h. leb-true _ _ (holds p h)))
