-- A difference of two products at 64 bits: of factors at most the largest denominator and the largest input. Assumes nothing.
use Rattle.std.proofs.Common.{◌≡◌, ◌∙◌, Bool, true, false, cond, ℕ, zero, suc, ◌+◌, ◌-◌, ◌*◌, ◌≤◌, ◌<◌, ◌^◌, mul-le-mul, arith, ltb, pos, negsuc, ◌-ℤ◌, ◌*ℤ◌, w64, SFits, to_z, of_z, to_z-of_z}
use lib.Signed.{mag}
use mir.Facts.{to_z_pos}
use Rattle.terms.specs.Limits.{max_denominator, max_input}

-- the size of a difference, whichever sign it has
mag_difference : (t : Bool) (a b : ℕ) → mag (cond t (negsuc b) (pos a)) ≤ a + b
mag_difference true a b = omega arith
mag_difference false a b = omega arith

-- numbers below 2 ^ 32: the difference fits
pub difference_fits : (a b : ℕ) → a < 2 ^ 32 → b < 2 ^ 32 → SFits w64 (pos a -ℤ pos b)
difference_fits a zero h k = record { sfits = omega arith }
difference_fits a (suc b) h k = let m = mag_difference (ltb a (suc b)) (a - suc b) (suc b - suc a) in record { sfits = omega arith }

module _ {a b : ℕ} (h : a ≤ max_denominator) (k : b ≤ max_input) where
  -- below 2 ^ 32
  pub product_most : a * b < 2 ^ 32
  product_most = omega (arith, mul-le-mul h k)

  -- the code's product, of the factors as i64
  product : to_z w64 a *ℤ to_z w64 b ≡ pos (a * b)
  product = rw (to_z_pos w64 {n = a} (omega arith), to_z_pos w64 {n = b} (omega arith))

  pub product_fits : SFits w64 (to_z w64 a *ℤ to_z w64 b)
  product_fits = rw product (record { sfits = omega (arith, product_most) })

  -- and the product read back
  pub product_read : to_z w64 (of_z w64 (to_z w64 a *ℤ to_z w64 b)) ≡ pos (a * b)
  product_read = to_z-of_z product_fits ∙ product
