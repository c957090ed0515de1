-- Proves FinishFigure: two quotients rounded up one by one cover their sum, and pass it by less than two. Assumes nothing.
use Rattle.std.proofs.Common.{◌≡◌, ap, ◌∙◌, ℕ, ◌+◌, ◌*◌, ◌≤◌, ◌<◌, mul-le-mul, mul-le-mul_left, zero-add, arith, leb-true, le-leb, length, length-take}
use native.Mathlib.Decide.{dec_le}
use Rattle.terms.specs.Table.{Table, requestors_of, requestor_at, needs_fit_verdict, table_verdict}
use Rattle.terms.specs.Figures.{rounded_up, bursts_above, rate_left, wait_of, finish_of, finish}
use Rattle.terms.specs.Refusals.{faultless, then}
use Rattle.terms.specs.Start.{start_verdict, start}
use Rattle.terms.proofs.Checks.{gate_open, then_open, then_none, gate_passed, each_place_at, fair, finishes_pass, admission_left}
use Rattle.terms.proofs.Figures.{rounded_up_covers, rounded_up_tight, finish_covers, finish_least, finish_most}
use Rattle.terms.proofs.Above.{above}
use Rattle.terms.proofs.Sound.{row_at}
use Rattle.guarantees.proofs.CreditSums.{rate_left_lem}
use Rattle.guarantees.specs.FinishFigure.{FigureIsLeast, FigureAtMost, former_finish, former_finish_verdict, former_finishes_verdict, former_verdict, WithinOneSlot, FigureWithinOneSlot, OnlySeventeenIsNew, NoFittingBasinTurnedAway}

-- of the figures' parts
parts_within : (d B R n j : ℕ) → 1 ≤ R → 1 ≤ n → WithinOneSlot (finish_of d B R n j) (wait_of B R + rounded_up (j * d) n)
parts_within d B R n j left own = record {
  not_above = finish_least d B R n j left own (wait_of B R + rounded_up (j * d) n) (omega (
    arith,
    mul-le-mul_left n (rounded_up_covers B R left),
    mul-le-mul_left R (rounded_up_covers (j * d) n own),
  ));
  one_less = elim (dec_le (wait_of B R + rounded_up (j * d) n) (finish_of d B R n j + 1)) [
    | yes h ↦ h
    | no above ↦ let two : finish_of d B R n j + 2 ≤ wait_of B R + rounded_up (j * d) n = omega arith in absurd (omega (
      arith,
      mul-le-mul_left (R * n) two,
      mul-le-mul_left n (rounded_up_tight B R left),
      mul-le-mul_left R (rounded_up_tight (j * d) n own),
      finish_covers d B R n j left own,
    ))
  ];
}

-- both divisors of a place below N
divisors : (limit : ℕ) (t : Table) → length t.requestors ≡ limit → table_verdict limit t ≡ faultless → (p : ℕ) → p < t.count
    → (1 ≤ rate_left t.denominator p (requestors_of t)) × (1 ≤ (requestor_at p (requestors_of t)).rate)
divisors limit t rows passes p place = ((rate_left_lem limit t rows passes p place).1, (row_at limit t rows (fair limit t passes) p place).rate_least)

pub figure_is_least : FigureIsLeast
unfolding finish
figure_is_least limit t rows passes p j place =
    let (left, own) = divisors limit t rows passes p place in
    record { enough = finish_covers t.denominator _ _ _ j left own; least = finish_least t.denominator _ _ _ j left own }

pub figure_at_most : FigureAtMost
unfolding finish
figure_at_most limit t rows passes p j place few =
    let (left, own) = divisors limit t rows passes p place in
    let a = above limit t p rows passes place in
    omega (arith, finish_most t.denominator (bursts_above p (requestors_of t)) _ _ j left own, a.same_bursts, a.bursts, mul-le-mul few a.denominator_most)

pub figure_within_one_slot : FigureWithinOneSlot
unfolding finish former_finish
figure_within_one_slot limit t rows passes p j place =
    let (left, own) = divisors limit t rows passes p place in
    parts_within t.denominator _ _ _ j left own

-- what the former check 7 says of a place
former_need : (t : Table) → former_finishes_verdict t ≡ faultless → (p : ℕ) → p < length (requestors_of t)
    → former_finish t.denominator (requestors_of t) p (requestor_at p (requestors_of t)).need.0 ≤ (requestor_at p (requestors_of t)).within.0
unfolding former_finish_verdict
former_need t e p h =
    let here = each_place_at (former_finish_verdict t.denominator (requestors_of t)) 0 (requestors_of t) e p h in
    leb-true _ _ (gate_open _ _ _ (rw (zero-add p) at here)).0

pub only_seventeen_is_new : OnlySeventeenIsNew
unfolding former_verdict
only_seventeen_is_new limit t rows e =
    let (passes, finishes) = then_open _ _ e in
    let held = finishes_pass t (λ p h.
    let place : p < t.count = omega (arith, length-take t.count t.requestors) in
    let figure = figure_within_one_slot limit t rows passes p (requestor_at p (requestors_of t)).need.0 place in
    omega (arith, former_need t finishes p h, figure.not_above)) in
    admission_left limit t passes ∙ ap (then (needs_fit_verdict t)) held ∙ then_none (needs_fit_verdict t)

pub no_fitting_basin_turned_away : NoFittingBasinTurnedAway
unfolding start_verdict start then
no_fitting_basin_turned_away limit t first rows e fits small = record {
  rows = rows;
  answer = rw (only_seventeen_is_new limit t rows e, fits, gate_passed _ _ _ (le-leb _ _ small));
}
