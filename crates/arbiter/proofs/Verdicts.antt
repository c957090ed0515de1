-- Each way out of checks 1 to 6 with 17 among them, and of a length's check. For any room. Assumes nothing.
use Rattle.std.proofs.Common.{◌≡◌, refl, sym, Bool, true, false, List, ℕ, ◌*◌, ◌≤◌, ◌<◌, ◌^◌, mul-le-mul, arith, length, length-take}
use Rattle.lists.specs.Sums.{total}
use Rattle.terms.specs.declared.refusals.Refusal.{Refusal}
use Rattle.terms.specs.Limits.{max_denominator, max_places}
use Rattle.terms.specs.Refusals.{Verdict, faultless, fault, refusal, gate, then}
use Rattle.terms.specs.Table.{Table, denominator_bounds, count_bounds, held_to, rate, requestors_of, fields_verdict, offered_row_verdict, tail_verdict, rate_sum_verdict, verdict_by, offered_verdict}
use Rattle.terms.proofs.Checks.{gate_open, then_open, held_open, each_place_weaker, offered_row_open, rates_fit, offered_passes}
use Rattle.layout.specs.Words.{room_of_words, right_length}
use Rattle.layout.proofs.RoundTrip.{right}
use Rattle.admission.specs.Checked.{table_in, limits_verdict, offered_rows_verdict, Counted, Checked}

-- ---- a gate, and what follows it

pub gate_then : (r : Refusal) (test : Bool) (rest : Verdict) → gate r test rest ≡ then (gate r test faultless) rest
unfolding gate then
gate_then r true rest = refl
gate_then r false rest = refl

pub gate_both : (r : Refusal) (test : Bool) (v rest : Verdict) → gate r test (then v rest) ≡ then (gate r test v) rest
unfolding gate then
gate_both r true v rest = refl
gate_both r false v rest = refl

pub gate_passes : (r : Refusal) (test : Bool) → faultless ≡ gate r test faultless → test ≡ true
gate_passes r test e = (gate_open r test faultless (sym e)).0

-- ---- checks 1 to 6 and 17

then_first : (a b c : Verdict) → then a (then b c) ≡ then (then a b) c
unfolding then
then_first faultless b c = refl
then_first (fault r) b c = refl

module _ (limit : ℕ) (t : Table) where
  -- in the order in which words are checked
  pub offered_parts : offered_verdict limit t ≡ then (limits_verdict limit t) (then (tail_verdict t) (then (offered_rows_verdict t) (rate_sum_verdict t)))
  unfolding verdict_by
  offered_parts = then_first (held_to denominator_bounds t.denominator) _ _

  module _ (e : faultless ≡ limits_verdict limit t) where
    limits_count : t.count ≤ limit
    limits_count = (held_open (count_bounds limit) _ (then_open _ _ (sym e)).1).1

    -- so that the rates can be added up
    sum_most : faultless ≡ offered_rows_verdict t → total rate (requestors_of t) ≤ limit * max_denominator
    sum_most f =
        let few : length (requestors_of t) ≤ limit = omega (arith, length-take t.count t.requestors, limits_count) in
        let most = mul-le-mul few (held_open denominator_bounds _ (then_open _ _ (sym e)).0).1 in
        let rows = each_place_weaker (offered_row_verdict t.denominator) (fields_verdict t.denominator) (λ p r ok. (offered_row_open t.denominator p r ok).0) 0 (requestors_of t) (sym f) in
        omega (arith, rates_fit t.denominator (requestors_of t) rows, most)

module _ (most : ℕ) (words : List ℕ) where
  pub limits_counted : right_length most words ≡ true → faultless ≡ limits_verdict (room_of_words words) (table_in words) → Counted most words
  limits_counted ok e = record { right = ok; count_most = limits_count (room_of_words words) (table_in words) e }

  pub laid_checked : faultless ≡ gate (refusal 23) (right_length most words) (offered_verdict (room_of_words words) (table_in words)) → Checked most words
  laid_checked e =
      let (ok, passes) = gate_open _ _ _ (sym e) in
      record { right = ok; passes = offered_passes (room_of_words words) (table_in words) passes }

pub rates_small : (words : List ℕ) → Counted max_places words → faultless ≡ limits_verdict (room_of_words words) (table_in words) → faultless ≡ offered_rows_verdict (table_in words)
    → total rate (requestors_of (table_in words)) < 2 ^ 64
rates_small words k e f = omega (arith, sum_most (room_of_words words) (table_in words) e f, (right max_places words k.right).room_most)
