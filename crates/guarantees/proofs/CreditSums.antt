-- Proves CreditSums: after any calls from an accepted start the credit sums hold and nothing is turned down by 23; and n ≤ R.
-- Assumes nothing.
use Rattle.std.proofs.Common.{◌≡◌, ap, sym, ◌∙◌, ℕ, suc, arith}
use Rattle.terms.specs.Table.{Table}
use Rattle.terms.specs.State.{State}
use Rattle.terms.proofs.Above.{above}
use Rattle.terms.proofs.Sound.{Sound, sound_shut}
use Rattle.guarantees.specs.CreditSums.{Sustained, CreditSums, RateLeft}
use Rattle.guarantees.proofs.Step.{ruled_never_23}
use Rattle.guarantees.proofs.Sound.{call_ruled}
use Rattle.guarantees.proofs.Start.{entered_sound, entered_table, entered_ruled}

-- of any sound state
pub sustained : (limit : ℕ) (t : Table) (s : State) → s.table ≡ t → Sound limit s → Sustained limit t s
sustained limit t s on v = record {
  same_table = on;
  sums = λ k. omega (arith, rw on at (v.sums (suc k)));
  passes_23 = sound_shut limit s v;
  never_23 = λ c e. ruled_never_23 s c (ap (λ r. r.answer) (sym (call_ruled limit s c v)) ∙ e);
}

pub credit_sums : CreditSums
credit_sums limit t first a calls = rw (entered_ruled limit t first a calls) (sustained limit t _ (entered_table limit t first a calls) (entered_sound limit t first a calls))

pub rate_left_lem : RateLeft
rate_left_lem limit t rows passes p h =
    let f = above limit t p rows passes (omega arith) in
    rw (f.same_row, f.same_rates) (omega (arith, f.rates), omega (arith, f.rates, f.own_rate))
