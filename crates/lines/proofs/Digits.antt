-- A number in decimal: io's digits are ours, and how many there are. Assumes nothing.
use Rattle.std.proofs.Common.{◌≡◌, refl, ◌∙◌, Bool, true, false, List, [], ◌∷◌, ◌++◌, ℕ, zero, suc, ◌+◌, ◌-◌, ◌*◌, ◌/◌, ◌%◌, ◌^◌, ◌≤◌, ◌<◌, arith, lt-ltb, ltb-true, leb-true, leb-false, ltb, leb, length, take, length-append}
use Rattle.lists.specs.Choices.{pick}
use Rattle.io.specs.Digits.{hex_digit_ascii, last_digits, IsDigitCount}
use Rattle.lines.specs.Text.{max_earlier, digits_of, decimal}

-- a digit's byte
glyph_digit : (d : ℕ) → d < 10 → hex_digit_ascii d ≡ 48 + d
glyph_digit d h = rw (lt-ltb d 10 h)

ten_power : (j : ℕ) → 10 ≤ 10 ^ suc j
ten_power zero = omega arith
ten_power (suc j) = omega (arith, ten_power j)

-- a number of one digit
one_digit : (n k : ℕ) → n < 10 → IsDigitCount 10 1 n k → last_digits 10 k n ≡ (48 + n) ∷ []
one_digit n zero small f = absurd (omega (arith, f.0))
one_digit n (suc zero) small f = let same : n % 10 ≡ n = omega arith in rw (same, glyph_digit n small)
one_digit n (suc (suc k)) small f =
    let one_less : suc (suc k) - 1 ≡ suc k = omega arith in
    let least : 10 ^ suc k ≤ n = rw one_less at (f.2 (omega arith)) in
    absurd (omega (arith, least, ten_power k))

-- a number of more digits: one digit fewer is enough for all but the last
one_fewer : (n j : ℕ) → IsDigitCount 10 1 n (suc (suc j)) → IsDigitCount 10 1 (n / 10) (suc j)
one_fewer n j f =
    let below : n < 10 ^ suc j * 10 = omega (arith, f.1) in
    let here : suc (suc j) - 1 ≡ suc j = omega arith in
    let there : suc j - 1 ≡ j = omega arith in
    let above : 10 ^ j * 10 ≤ n = omega (arith, rw here at (f.2 (omega arith))) in
    (omega arith, omega (arith, below), λ h. rw there (omega (arith, above)))

-- io's digits are ours, where so many are enough
digits_same : (earlier k n : ℕ) → k ≤ suc earlier → IsDigitCount 10 1 n k → last_digits 10 k n ≡ digits_of earlier n
unfolding digits_of
digits_same zero zero n few f = absurd (omega (arith, f.0))
digits_same zero (suc zero) n few f = one_digit n 1 (omega (arith, f.1)) f
digits_same zero (suc (suc k)) n few f = absurd (omega arith)
digits_same (suc earlier) zero n few f = absurd (omega (arith, f.0))
digits_same (suc earlier) (suc zero) n few f = let small : n < 10 = omega (arith, f.1) in rw (lt-ltb n 10 small) (one_digit n 1 small f)
digits_same (suc earlier) (suc (suc k)) n few f = by_size (ltb n 10) refl (digits_same earlier (suc k) (n / 10) (omega arith) (one_fewer n k f)) where
  by_size : (small : Bool) → ltb n 10 ≡ small → last_digits 10 (suc k) (n / 10) ≡ digits_of earlier (n / 10)
      → last_digits 10 (suc (suc k)) n ≡ pick small ((48 + n) ∷ []) (digits_of earlier (n / 10) ++ ((48 + n % 10) ∷ []))
  by_size true e rest = one_digit n (suc (suc k)) (ltb-true n 10 e) f
  by_size false e rest = rw (rest, glyph_digit (n % 10) (omega arith))

-- a number as io's decimal puts it
decimal_digits : (n k : ℕ) → k ≤ suc max_earlier → IsDigitCount 10 1 n k → last_digits 10 k n ≡ decimal n
unfolding decimal
decimal_digits n k few f = digits_same max_earlier k n few f

-- how many digits there are
digits_few : (earlier n : ℕ) → length (digits_of earlier n) ≤ suc earlier
unfolding digits_of
digits_few zero n = omega arith
digits_few (suc earlier) n = by_size (ltb n 10) (digits_few earlier (n / 10)) where
  by_size : (small : Bool) → length (digits_of earlier (n / 10)) ≤ suc earlier → length (pick small ((48 + n) ∷ []) (digits_of earlier (n / 10) ++ ((48 + n % 10) ∷ []))) ≤ suc (suc earlier)
  by_size true rest = omega arith
  by_size false rest = simp length-append (omega (arith, rest))

pub decimal_few : (n : ℕ) → length (decimal n) ≤ suc max_earlier
unfolding decimal
decimal_few n = digits_few max_earlier n

-- a number of 64 bits has no more digits than that
large : (j : ℕ) → 2 ^ 64 ≤ 10 ^ (j + suc max_earlier)
large zero = omega arith
large (suc j) = let one_more : suc j + suc max_earlier ≡ suc (j + suc max_earlier) = omega arith in rw one_more (omega (arith, large j))

few_digits : (n k : ℕ) → n < 2 ^ 64 → IsDigitCount 10 1 n k → k ≤ suc max_earlier
few_digits n k fits f = by_count (leb k (suc max_earlier)) refl where
  by_count : (few : Bool) → leb k (suc max_earlier) ≡ few → k ≤ suc max_earlier
  by_count true e = leb-true k (suc max_earlier) e
  by_count false e =
      let many = leb-false k (suc max_earlier) e in
      let back : k - 1 ≡ (k - (2 + max_earlier)) + suc max_earlier = omega (arith, many) in
      absurd (omega (arith, rw back at (f.2 (omega (arith, many))), large (k - (2 + max_earlier))))

-- what io's decimal puts in an array
pub decimal_put : (n k : ℕ) (array : List ℕ) → n < 2 ^ 64 → IsDigitCount 10 1 n k → take k array ≡ last_digits 10 k n → take k array ≡ decimal n
decimal_put n k array fits f e = e ∙ decimal_digits n k (few_digits n k fits f) f
