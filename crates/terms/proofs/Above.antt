-- The sums above a place of a table that passes checks 1 to 6: with the place's own rate the rates are at most D, and with its own burst the
-- bursts still fit.
-- Assumes nothing.
use Rattle.std.proofs.Common.{◌≡◌, refl, ap, ℕ, suc, ◌+◌, ◌*◌, ◌≤◌, ◌<◌, arith, length, get_or, length-take, get_or-take, take-take}
use Rattle.lists.specs.Sums.{total}
use Rattle.lists.proofs.Sums.{total_take_drop, total_take_rises, total_take_suc}
use Rattle.terms.specs.Table.{Table, rate, burst, no_requestor, requestors_of, table_verdict}
use Rattle.terms.specs.Limits.{max_denominator, max_burst, max_need, max_within}
use Rattle.terms.specs.Refusals.{faultless}
use Rattle.terms.specs.Figures.{bursts_above, rates_above}
use Rattle.terms.proofs.Checks.{fair, bursts_fit}

-- of place p, below N
pub record Above (limit : ℕ) (t : Table) (p : ℕ) : Type 0 where
  pub place : p < limit
  pub denominator_most : t.denominator ≤ max_denominator
  pub own_rate : 1 ≤ (get_or t.requestors p no_requestor).rate
  pub own_need : (get_or t.requestors p no_requestor).need.0 ≤ max_need
  pub own_within : (get_or t.requestors p no_requestor).within.0 ≤ max_within
  pub rates : rates_above p t.requestors + (get_or t.requestors p no_requestor).rate ≤ t.denominator
  pub bursts : bursts_above p t.requestors + (get_or t.requestors p no_requestor).burst ≤ limit * max_burst
  -- the table's own rows and the rows of places 0 to N−1 are the same up to here
  pub same_rates : rates_above p (requestors_of t) ≡ rates_above p t.requestors
  pub same_bursts : bursts_above p (requestors_of t) ≡ bursts_above p t.requestors
  pub same_row : get_or (requestors_of t) p no_requestor ≡ get_or t.requestors p no_requestor

pub above : (limit : ℕ) (t : Table) (p : ℕ) → length t.requestors ≡ limit → table_verdict limit t ≡ faultless → p < t.count → Above limit t p
above limit t p long ok h =
    let f = fair limit t ok in
    let inside : p < length (requestors_of t) = simp length-take (omega (arith, f.count_most)) in
    let row = get_or-take t.count t.requestors p no_requestor h in
    let cut = take-take p t.count t.requestors (omega arith) in
    let least : 1 ≤ (get_or t.requestors p no_requestor).rate = rw row at (f.row p inside).rate_least in
    let sum = rw (cut, row) at (total_take_suc rate no_requestor refl p (requestors_of t)) in
    record {
      place = omega (arith, f.count_most);
      denominator_most = f.denominator_most;
      own_rate = least;
      own_need = rw row at (f.row p inside).need_most;
      own_within = rw row at (f.row p inside).within_most;
      rates = omega (arith, sum, total_take_drop rate (suc p) (requestors_of t), f.rate_sum);
      bursts = omega (arith, total_take_suc burst no_requestor refl p t.requestors, total_take_rises burst (suc p) t.count t.requestors (omega arith), bursts_fit limit t f);
      same_rates = ap (total rate) cut;
      same_bursts = ap (total burst) cut;
      same_row = row;
    }
