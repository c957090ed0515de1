-- A quotient rounded up is the least whole number that is not below its fraction, and so the finish figure is of its two fractions' sum.
-- Assumes nothing.
use Rattle.std.proofs.Common.{◌≡◌, sym, ◌∙◌, ℕ, ◌+◌, ◌-◌, ◌*◌, ◌≤◌, ◌<◌, mul-le-mul, mul-le-mul_left, mod-lt, arith, le-leb, leb}
use native.Mathlib.Nat.{div-add-mod}
use native.Mathlib.Decide.{dec_le}
use borrow.Author.Tests.{lt-leb}
use Rattle.terms.specs.Figures.{rounded_up, finish_of}

module _ (a b : ℕ) (some : 1 ≤ b) where
  pub rounded_up_covers : a ≤ b * rounded_up a b
  unfolding rounded_up
  rounded_up_covers = omega (arith, div-add-mod (a + (b - 1)) b, mod-lt (a + (b - 1)) some)

  -- by less than one more
  pub rounded_up_tight : b * rounded_up a b < a + b
  unfolding rounded_up
  rounded_up_tight = omega (arith, div-add-mod (a + (b - 1)) b, mod-lt (a + (b - 1)) some)

  pub rounded_up_least : (q : ℕ) → a ≤ b * q → rounded_up a b ≤ q
  rounded_up_least q covers = elim (dec_le (rounded_up a b) q) [
    | yes h ↦ h
    | no above ↦ let more : q + 1 ≤ rounded_up a b = omega arith in absurd (omega (arith, rounded_up_tight, mul-le-mul_left b more))
  ]

-- ---- the finish figure

module _ (d B R n j : ℕ) (left : 1 ≤ R) (own : 1 ≤ n) where
  divisor : 1 ≤ R * n
  divisor = omega (arith, mul-le-mul left own)

  pub finish_covers : B * n + j * d * R ≤ R * n * finish_of d B R n j
  finish_covers = rounded_up_covers _ _ divisor

  pub finish_least : (F : ℕ) → B * n + j * d * R ≤ R * n * F → finish_of d B R n j ≤ F
  finish_least = rounded_up_least _ _ divisor

  -- both divisors are at least 1
  pub finish_most : finish_of d B R n j ≤ B + j * d
  finish_most = finish_least (B + j * d) (omega (arith, mul-le-mul_left (B * n) left, mul-le-mul_left (j * d * R) own))

  -- so a figure is held to L without a division
  pub finish_within : (L : ℕ) → leb (finish_of d B R n j) L ≡ leb (B * n + j * d * R) (R * n * L)
  finish_within L = elim (dec_le (finish_of d B R n j) L) [
    | yes h ↦
        let covers : B * n + j * d * R ≤ R * n * L = omega (arith, finish_covers, mul-le-mul_left (R * n) h) in
        le-leb _ _ h ∙ sym (le-leb _ _ covers)
    | no h ↦ elim (dec_le (B * n + j * d * R) (R * n * L)) [
      | yes covers ↦ absurd (h (finish_least L covers))
      | no short ↦
          let above : L < finish_of d B R n j = omega arith in
          let below : R * n * L < B * n + j * d * R = omega arith in
          lt-leb _ _ above ∙ sym (lt-leb _ _ below)
    ]
  ]
