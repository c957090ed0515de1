-- How large the products under a finish figure can be, whose parts are within their limits. For any number of places. Assumes nothing.
use Rattle.std.proofs.Common.{ℕ, ◌*◌, ◌≤◌, mul-le-mul}
use Rattle.terms.specs.Limits.{max_denominator, max_burst, max_need}
use Rattle.admission.specs.Checked.{Parts}

pub record Products (most d bursts left n j : ℕ) : Type 0 where
  pub waiting : bursts * n ≤ most * max_burst * max_denominator
  pub transfers : j * d ≤ max_need * max_denominator
  pub scaled : j * d * left ≤ max_need * max_denominator * max_denominator
  pub divisor_least : 1 ≤ left * n
  pub divisor_most : left * n ≤ max_denominator * max_denominator

pub products : {most d bursts left n j : ℕ} → Parts most d bursts left n j → Products most d bursts left n j
products f =
    let transfers = mul-le-mul f.need_most f.denominator_most in
    record {
      waiting = mul-le-mul f.bursts_most f.rate_most;
      transfers = transfers;
      scaled = mul-le-mul transfers f.left_most;
      divisor_least = mul-le-mul f.left_least f.rate_least;
      divisor_most = mul-le-mul f.left_most f.rate_most;
    }
