-- Reading group by group: what the next byte decides, and how many bytes a reading takes. Assumes nothing.
use Rattle.std.proofs.Common.{◌≡◌, refl, ap, Bool, true, false, Result, Ok, Err, List, [], ◌∷◌, ℕ, zero, suc, ◌+◌, ◌-◌, ◌*◌, ◌≤◌, ◌<◌, arith, lt-ltb, le-ltb, ltb, leb, eqb, length, get_or, take, drop}
use Rattle.std.proofs.lemmas.Bool.Decides.{nat_tests}
use borrow.Author.Rules.{part_to_end}
use Rattle.lists.specs.Choices.{pick}
use Rattle.terms.specs.declared.refusals.InputRefusal.{InputRefusal}
use Rattle.terms.specs.declared.refusals.InputRefusal.TheVariants as input
use Rattle.groups.specs.Groups.{Reading, Number, Ended, Malformed, max_number, max_later, last_group, combined, later_groups, number_of, number_answer}

-- ---- the next byte

-- what the code makes of a byte with its top bit set and of what it reads behind it
abbrev pub combined_answer : ℕ → Result (ℕ × List ℕ) InputRefusal → Result (ℕ × List ℕ) InputRefusal
combined_answer x (Ok (high, rest)) = pick (leb (x - 128 + 128 * high) max_number) (Ok (x - 128 + 128 * high, rest)) (Err input.NumberForm)
combined_answer x (Err e) = Err e

combined_read : (x : ℕ) (rest : List ℕ) (high : Reading) → number_answer (x ∷ rest) (combined x high) ≡ combined_answer x (number_answer rest high)
unfolding combined
combined_read x rest (Number h taken) = by_size (leb (x - 128 + 128 * h) max_number) where
  by_size : (small : Bool) → number_answer (x ∷ rest) (pick small (Number (x - 128 + 128 * h) (suc taken)) Malformed) ≡ pick small (Ok (x - 128 + 128 * h, drop taken rest)) (Err input.NumberForm)
  by_size true = refl
  by_size false = refl
combined_read x rest Ended = refl
combined_read x rest Malformed = refl

pub later_none : (left : ℕ) (bytes : List ℕ) → left ≡ 0 → later_groups left bytes ≡ Malformed
unfolding later_groups
later_none zero bytes e = refl
later_none (suc left) bytes e = absurd (omega arith)

pub later_ended : (left : ℕ) (bytes : List ℕ) → (left ≡ 0 → ⊥) → length bytes < 1 → later_groups left bytes ≡ Ended
unfolding later_groups
later_ended zero bytes some e = absurd (some refl)
later_ended (suc left) [] some e = refl
later_ended (suc left) (x ∷ bytes) some e = absurd (omega arith)

pub number_ended : (bytes : List ℕ) → length bytes < 1 → number_of bytes ≡ Ended
unfolding number_of
number_ended [] e = refl
number_ended (x ∷ bytes) e = absurd (omega arith)

-- the rest behind the byte at hand
abbrev pub behind : List ℕ → List ℕ
behind bytes = take (length bytes - 1) (drop 1 bytes)

behind_first : (x : ℕ) (rest : List ℕ) → behind (x ∷ rest) ≡ rest
behind_first x rest = part_to_end (x ∷ rest) 1

pub later_last : (left : ℕ) (bytes : List ℕ) → (left ≡ 0 → ⊥) → 1 ≤ length bytes → get_or bytes 0 0 < 128
    → number_answer bytes (later_groups left bytes) ≡ pick (eqb (get_or bytes 0 0) 0) (Err input.NumberForm) (Ok (get_or bytes 0 0, behind bytes))
unfolding later_groups last_group
later_last zero bytes some there small = absurd (some refl)
later_last (suc left) [] some there small = absurd (omega arith)
later_last (suc left) (x ∷ rest) some there small = rw (lt-ltb x 128 small, behind_first x rest) (by_size (eqb x 0)) where
  by_size : (none : Bool) → number_answer (x ∷ rest) (pick none Malformed (Number x 1)) ≡ pick none (Err input.NumberForm) (Ok (x, rest))
  by_size true = refl
  by_size false = refl

pub later_zero : (left : ℕ) (bytes : List ℕ) → (left ≡ 0 → ⊥) → 1 ≤ length bytes → get_or bytes 0 0 ≡ 0 → Err input.NumberForm ≡ number_answer bytes (later_groups left bytes)
later_zero left bytes some there none = rw (later_last left bytes some there (omega arith), none)

pub later_more : (left : ℕ) (bytes : List ℕ) → (left ≡ 0 → ⊥) → 1 ≤ length bytes → 128 ≤ get_or bytes 0 0
    → number_answer bytes (later_groups left bytes) ≡ combined_answer (get_or bytes 0 0) (number_answer (behind bytes) (later_groups (left - 1) (behind bytes)))
unfolding later_groups
later_more zero bytes some there large = absurd (some refl)
later_more (suc left) [] some there large = absurd (omega arith)
later_more (suc left) (x ∷ rest) some there large =
    let fewer : suc left - 1 ≡ left = omega arith in
    rw (le-ltb x 128 large, behind_first x rest, fewer) (combined_read x rest (later_groups left rest))

pub number_one : (bytes : List ℕ) → 1 ≤ length bytes → get_or bytes 0 0 < 128 → number_answer bytes (number_of bytes) ≡ Ok (get_or bytes 0 0, behind bytes)
unfolding number_of
number_one [] there small = absurd (omega arith)
number_one (x ∷ rest) there small = rw (lt-ltb x 128 small, behind_first x rest)

pub number_more : (bytes : List ℕ) → 1 ≤ length bytes → 128 ≤ get_or bytes 0 0
    → number_answer bytes (number_of bytes) ≡ combined_answer (get_or bytes 0 0) (number_answer (behind bytes) (later_groups max_later (behind bytes)))
unfolding number_of
number_more [] there large = absurd (omega arith)
number_more (x ∷ rest) there large = rw (le-ltb x 128 large, behind_first x rest) (combined_read x rest (later_groups max_later rest))

-- what the check is told of the next byte
pub ruleset later_steps = (later_none, later_ended, later_last, later_more, nat_tests)

pub ruleset number_steps = (number_ended, number_one, number_more, nat_tests)

-- ---- how many bytes a reading takes

abbrev pub taken_by : Reading → ℕ
taken_by (Number x taken) = taken
taken_by Ended = 0
taken_by Malformed = 0

combined_takes : (x : ℕ) (high : Reading) → taken_by (combined x high) ≤ suc (taken_by high)
unfolding combined
combined_takes x (Number h taken) = by_size (leb (x - 128 + 128 * h) max_number) where
  by_size : (small : Bool) → taken_by (pick small (Number (x - 128 + 128 * h) (suc taken)) Malformed) ≤ suc taken
  by_size true = omega arith
  by_size false = omega arith
combined_takes x Ended = omega arith
combined_takes x Malformed = omega arith

last_takes : (x : ℕ) → taken_by (last_group x) ≤ 1
unfolding last_group
last_takes x = by_size (eqb x 0) where
  by_size : (none : Bool) → taken_by (pick none Malformed (Number x 1)) ≤ 1
  by_size true = omega arith
  by_size false = omega arith

later_takes : (left : ℕ) (bytes : List ℕ) → (taken_by (later_groups left bytes) ≤ left) × (taken_by (later_groups left bytes) ≤ length bytes)
unfolding later_groups
later_takes zero bytes = (omega arith, omega arith)
later_takes (suc left) [] = (omega arith, omega arith)
later_takes (suc left) (x ∷ bytes) = by_size (later_takes left bytes) (ltb x 128) where
  by_size : (taken_by (later_groups left bytes) ≤ left) × (taken_by (later_groups left bytes) ≤ length bytes) → (small : Bool)
      → (taken_by (pick small (last_group x) (combined x (later_groups left bytes))) ≤ suc left) × (taken_by (pick small (last_group x) (combined x (later_groups left bytes))) ≤ suc (length bytes))
  by_size rest true = (omega (arith, last_takes x), omega (arith, last_takes x))
  by_size rest false = (omega (arith, combined_takes x (later_groups left bytes)), omega (arith, combined_takes x (later_groups left bytes)))

-- no more groups are taken than may follow
pub later_few : (left : ℕ) (bytes : List ℕ) (high : Reading) → high ≡ later_groups left bytes → taken_by high ≤ left
later_few left bytes high e = rw e (later_takes left bytes).0

-- no byte past the end is taken
pub number_takes : (bytes : List ℕ) → taken_by (number_of bytes) ≤ length bytes
unfolding number_of
number_takes [] = omega arith
number_takes (x ∷ bytes) = by_size (later_takes max_later bytes).1 (ltb x 128) where
  by_size : taken_by (later_groups max_later bytes) ≤ length bytes → (small : Bool)
      → taken_by (pick small (Number x 1) (combined x (later_groups max_later bytes))) ≤ suc (length bytes)
  by_size rest true = omega arith
  by_size rest false = omega (arith, combined_takes x (later_groups max_later bytes))

-- ---- a number takes a byte at least

combined_some : (x : ℕ) (high : Reading) (y taken : ℕ) → combined x high ≡ Number y taken → 1 ≤ taken
unfolding combined
combined_some x (Number h more) y taken e = by_size (leb (x - 128 + 128 * h) max_number) e where
  by_size : (small : Bool) → pick small (Number (x - 128 + 128 * h) (suc more)) Malformed ≡ Number y taken → 1 ≤ taken
  by_size true f = let same : suc more ≡ taken = ap taken_by f in omega arith
  by_size false f = let z : ◌≡◌ {A = ℕ} 0 1 = cc in absurd (omega arith)
combined_some x Ended y taken e = let z : ◌≡◌ {A = ℕ} 0 1 = cc in absurd (omega arith)
combined_some x Malformed y taken e = let z : ◌≡◌ {A = ℕ} 0 1 = cc in absurd (omega arith)

pub number_some : (bytes : List ℕ) (y taken : ℕ) → number_of bytes ≡ Number y taken → 1 ≤ taken
unfolding number_of
number_some [] y taken e = let z : ◌≡◌ {A = ℕ} 0 1 = cc in absurd (omega arith)
number_some (x ∷ bytes) y taken e = by_size (ltb x 128) e where
  by_size : (small : Bool) → pick small (Number x 1) (combined x (later_groups max_later bytes)) ≡ Number y taken → 1 ≤ taken
  by_size true f = let same : 1 ≡ taken = ap taken_by f in omega arith
  by_size false f = combined_some x (later_groups max_later bytes) y taken f
